pub mod Payloads
pub mod Told
pub mod Writable
pub mod ReadLaws
pub mod Soap11
