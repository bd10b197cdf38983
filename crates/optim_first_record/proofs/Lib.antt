pub mod Limits
pub mod Proper
