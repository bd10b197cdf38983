pub mod Loops
pub mod Points
pub mod Lists
pub mod Ties
