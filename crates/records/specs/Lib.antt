pub mod Format
pub mod Kinds
