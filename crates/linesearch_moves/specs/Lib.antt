pub mod Searches
pub mod Bracketing
