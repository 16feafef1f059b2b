pub mod Boards
pub mod Determined
pub mod Fed
