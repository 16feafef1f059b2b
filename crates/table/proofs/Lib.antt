pub mod Apart
pub mod Determined
pub mod Doing
pub mod Kept
pub mod Looking
pub mod Shows
pub mod States
pub mod Vectors
