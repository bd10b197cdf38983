pub mod Algorithm
pub mod Phases
pub mod Laws
pub mod Counts
pub mod Ties
pub mod Follows
