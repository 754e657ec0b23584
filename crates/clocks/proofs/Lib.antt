pub mod Means
pub mod Runs
pub mod Starts
