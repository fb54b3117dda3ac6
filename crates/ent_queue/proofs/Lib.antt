pub mod Parts
pub mod Queues
pub mod Gaining
pub mod Extending
pub mod DrawnBlocks
pub mod Common
pub mod Laws
