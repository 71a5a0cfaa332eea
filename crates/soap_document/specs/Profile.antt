-- The definitions of `profile`.
pub mod Answer
pub mod Bare
pub mod Document
pub mod Fed
pub mod Items
pub mod Keys
pub mod Namespaces
pub mod Opened
pub mod Payload
pub mod Pool
pub mod Resolving
pub mod Scope
pub mod Steps
pub mod Tree
pub mod TreeCode
pub mod View
