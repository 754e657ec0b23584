pub mod Fault
pub mod Texts
pub mod Meaning
pub mod Tables
pub mod Calls
