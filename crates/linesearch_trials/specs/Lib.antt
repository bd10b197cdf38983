pub mod Cubic
pub mod Trials
pub mod Start
pub mod Evaluations
