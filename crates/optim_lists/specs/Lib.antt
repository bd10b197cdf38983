pub mod Layout
pub mod Lists
pub mod Parts
pub mod Lent
pub mod Answered
pub mod Laws
pub mod Shown
