pub mod Fault
pub mod Options
pub mod Ending
pub mod Words
pub mod Device
pub mod Counted
pub mod Named
