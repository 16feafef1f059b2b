pub mod Bare
pub mod Edges
pub mod Noise
pub mod Told
