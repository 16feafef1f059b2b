pub mod Determined
pub mod Dividing
pub mod Plain
pub mod Theorems
pub mod Trying
pub mod Vectors
