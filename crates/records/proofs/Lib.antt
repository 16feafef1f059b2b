pub mod Cutting
pub mod Determined
pub mod Laws
pub mod Vectors
