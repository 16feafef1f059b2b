pub mod Examples
pub mod Numbers
pub mod Speaking
pub mod Stores
pub mod Telling
pub mod Turning
pub mod Writing
