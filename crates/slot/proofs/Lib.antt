pub mod Goods
pub mod Heads
pub mod Laws
pub mod Rooms
pub mod Steps
