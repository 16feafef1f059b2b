pub mod Board
pub mod Fed
