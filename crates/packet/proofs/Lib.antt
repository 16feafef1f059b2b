pub mod Answers
pub mod Damages
pub mod Determined
pub mod Flipped
pub mod Vectors
