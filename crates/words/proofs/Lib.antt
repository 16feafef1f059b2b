pub mod Determined
pub mod Each
pub mod Packing
pub mod Vectors
