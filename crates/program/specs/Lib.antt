pub mod Program
pub mod Running
pub mod Taking
