pub mod Envelope
pub mod Refusals
pub mod Scope
pub mod Soap
pub mod Steps
pub mod View
pub mod Frame
