pub mod Algorithm
pub mod Ties
