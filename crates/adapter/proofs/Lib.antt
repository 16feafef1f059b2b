pub mod Arriving
pub mod Carrying
pub mod Determined
pub mod Laws
pub mod Vectors
pub mod Writing
