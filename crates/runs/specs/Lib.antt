pub mod Numbers
pub mod Part
