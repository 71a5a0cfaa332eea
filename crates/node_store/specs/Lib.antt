pub mod Changes
pub mod Endpoints
pub mod Has
pub mod Failed
pub mod Imported
pub mod Mounted
pub mod Rewrites
pub mod Stored
