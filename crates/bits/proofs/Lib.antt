pub mod Arms
pub mod Determined
pub mod Every
pub mod Flips
pub mod Rows
pub mod Runs
pub mod Search
pub mod Storing
