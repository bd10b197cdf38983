pub mod RefusalsLists
pub mod SimplexRefusals
pub mod Refusals
pub mod Fits
