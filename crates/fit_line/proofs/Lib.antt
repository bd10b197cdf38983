pub mod Few
pub mod Lends
pub mod Shows
