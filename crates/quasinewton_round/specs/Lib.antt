pub mod Opening
pub mod Rounds
