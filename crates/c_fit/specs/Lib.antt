pub mod Defaults
pub mod Handed
