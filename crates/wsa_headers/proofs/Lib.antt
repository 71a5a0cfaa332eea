pub mod AddressingBack
pub mod AddressingGood
pub mod Blocks
pub mod EprBack
pub mod Marks
pub mod RoomLemmas
pub mod Texts
