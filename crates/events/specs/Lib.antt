pub mod Places
pub mod Kinds
pub mod Texts
