pub mod Changing
pub mod Determined
pub mod Doing
pub mod Kept
pub mod Looking
pub mod Moving
pub mod Places
