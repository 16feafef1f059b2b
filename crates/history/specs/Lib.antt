pub mod Followed
pub mod Missing
pub mod Sent
pub mod Transcript
