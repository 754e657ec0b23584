pub mod Prints
pub mod Status
