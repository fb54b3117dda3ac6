pub mod Taking
pub mod Strangers
pub mod Past
pub mod Beginnings
pub mod Common
pub mod Laws
