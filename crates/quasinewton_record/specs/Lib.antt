pub mod Formulas
pub mod Descents
pub mod Outcomes
