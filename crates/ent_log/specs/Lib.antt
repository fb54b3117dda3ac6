pub mod Logs
pub mod Spawning
pub mod Beginning
pub mod HandingOn
