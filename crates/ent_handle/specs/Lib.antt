pub mod Ties
pub mod Handle
pub mod Birth
pub mod Bytes
pub mod Component
pub mod Text
pub mod NonZero
pub mod HandedBack
