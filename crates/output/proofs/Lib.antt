pub mod Printed
pub mod Values
pub mod Fits
pub mod Room
pub mod PrintedInOrder
pub mod Called
