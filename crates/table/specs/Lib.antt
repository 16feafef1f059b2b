pub mod Calls
pub mod State
