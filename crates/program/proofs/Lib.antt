pub mod Outputs
pub mod Runs
pub mod SessionS
pub mod Turns
