-- The definitions of `links`.
pub mod Items
pub mod Laws
pub mod Nodes
