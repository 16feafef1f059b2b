pub mod All
pub mod Bits
pub mod Rows
pub mod Search
