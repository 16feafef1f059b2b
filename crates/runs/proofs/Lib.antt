pub mod Copying
pub mod Numbers
pub mod Parts
