pub mod Doing
pub mod Edges
pub mod Laws
pub mod Vectors
