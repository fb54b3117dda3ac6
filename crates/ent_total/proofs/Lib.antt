pub mod Lent
pub mod Recorded
pub mod Unused
pub mod Walking
mod Refusals
pub mod ImageEnd
pub mod Common
