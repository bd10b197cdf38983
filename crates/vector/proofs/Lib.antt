pub mod Loops
pub mod First
pub mod Stores
