pub mod Lists
pub mod Zeros
pub mod Counts
