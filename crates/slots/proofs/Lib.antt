pub mod Places
pub mod Numbers
pub mod Calls
pub mod Accesses
pub mod Ranges
pub mod Effects
pub mod Found
pub mod Finding
