pub mod Session
pub mod Callers
