pub mod Faults
pub mod Faults11
pub mod Rules
pub mod Steps
pub mod Text
pub mod Text11
