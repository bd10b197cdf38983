pub mod Rules
pub mod Moves
