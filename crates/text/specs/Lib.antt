pub mod Decimal
pub mod Placing
pub mod Text
pub mod Rows
pub mod Writing
