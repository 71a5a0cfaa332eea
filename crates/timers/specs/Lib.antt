pub mod Links
pub mod Slots
pub mod Keys
pub mod Pending
