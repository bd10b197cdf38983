pub mod Algorithm
pub mod Follows
pub mod Laws
pub mod Counts
