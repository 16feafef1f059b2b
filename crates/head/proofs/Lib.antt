pub mod Bounds
pub mod Moves
pub mod Vectors
pub mod Wishes
