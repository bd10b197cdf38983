pub mod Forms
pub mod Jobs
pub mod Program
