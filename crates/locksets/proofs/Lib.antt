pub mod Bits
pub mod Means
