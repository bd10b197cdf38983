pub mod Answer
pub mod Start
