pub mod Talk
pub mod Program
