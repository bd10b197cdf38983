pub mod Answers
pub mod Engine
