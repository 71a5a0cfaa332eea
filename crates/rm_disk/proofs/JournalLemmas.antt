-- The lemmas of `journal`.
pub mod Crash
pub mod Parts
pub mod Banks
pub mod Walk
pub mod Places
pub mod Refusals
pub mod Granted
pub mod Written
pub mod Rows
pub mod Before
