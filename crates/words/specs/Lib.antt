pub mod Protected
pub mod Told
