-- The lemmas of `read_laws`.
pub mod Addressing
pub mod Bodies
pub mod Envelopes
pub mod Faults
pub mod Faults11
pub mod Headers
pub mod Lifecycles
pub mod Lists
pub mod Messages
pub mod Names
pub mod Params
pub mod Texts
pub mod Trims
pub mod WholeMessages
pub mod Payloads
