pub mod Steps
pub mod Texts
pub mod Shown
