pub mod Print
pub mod Reasons
