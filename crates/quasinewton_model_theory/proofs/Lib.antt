pub mod Places
pub mod TiesDense
pub mod TiesLimited
pub mod Ties
pub mod Words
