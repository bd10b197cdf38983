pub mod Places
pub mod Laws
pub mod Answers
pub mod Shown
