pub mod Standing
pub mod Spoken
