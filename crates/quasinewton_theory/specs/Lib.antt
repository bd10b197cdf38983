pub mod Algorithm
pub mod Laws
pub mod Counts
pub mod Follows
