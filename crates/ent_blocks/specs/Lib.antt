pub mod Blocks
pub mod Drawing
pub mod Ending
pub mod Overflow
pub mod PastEnding
