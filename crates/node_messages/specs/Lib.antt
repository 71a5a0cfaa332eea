pub mod Details
pub mod Homes
pub mod Names
pub mod Places
pub mod Requests
pub mod Payloads
pub mod Split
