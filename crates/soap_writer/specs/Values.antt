-- The definitions of `values`.
pub mod ChildLaws
pub mod Children
pub mod EachLaws
pub mod NumberLaws
pub mod Outcome
pub mod QNames
pub mod Steps
pub mod TextLaws
pub mod TrimLaws
pub mod Values
