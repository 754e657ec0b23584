pub mod Asking
pub mod Plainly
