pub mod Adding
pub mod Division
pub mod Fours
pub mod Nearest
pub mod Reading
pub mod Rule
pub mod Vectors
pub mod Words
