pub mod Vectors
pub mod Kept
