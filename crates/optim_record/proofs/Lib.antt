pub mod Refusal1Parts
pub mod Refusal1
