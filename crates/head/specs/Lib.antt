pub mod Head
pub mod Move
