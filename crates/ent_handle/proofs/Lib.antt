pub mod Spelled
pub mod Decimals
pub mod HandleTexts
