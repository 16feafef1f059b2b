pub mod Answers
pub mod Map
pub mod Calls
