pub mod Numbers
pub mod Agents
pub mod Messages
pub mod Locks
pub mod Codes
pub mod Places
pub mod Limits
