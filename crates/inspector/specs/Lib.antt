pub mod Places
pub mod Listings
pub mod Prints
