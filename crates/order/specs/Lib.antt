pub mod Lists
pub mod Marks
pub mod Operations
pub mod Boards
pub mod Ordering
pub mod Settled
pub mod Demand
