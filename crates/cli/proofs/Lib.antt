pub mod Numbers
pub mod Faults
pub mod Naming
pub mod TakenInSteps
