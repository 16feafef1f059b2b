pub mod Damage
pub mod Received
pub mod Told
