pub mod Head
pub mod Moves
