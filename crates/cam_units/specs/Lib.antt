pub mod Nearest
pub mod Turns
pub mod Board
pub mod Boxes
pub mod Lending
