pub mod Answer
pub mod Behind
pub mod Depth
pub mod Fed
pub mod Front
pub mod Hopeless
pub mod Source
pub mod Stage
