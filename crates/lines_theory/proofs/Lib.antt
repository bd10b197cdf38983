pub mod Sums
pub mod Pieces
pub mod Whole
pub mod LineLaws
pub mod ReadBack
