pub mod Enough
pub mod Prints
