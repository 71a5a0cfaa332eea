pub mod Asks
pub mod Statuses
