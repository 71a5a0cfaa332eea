pub mod Addressing
pub mod Endpoint
pub mod Room
pub mod Steps
pub mod TextLaws
pub mod Texts
pub mod Writable
