pub mod Beginning
pub mod CommandLine
pub mod Calls
pub mod Checking
pub mod Verdict
pub mod Progress
pub mod Status
