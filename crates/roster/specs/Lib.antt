-- The definitions that the contracts cite.
pub mod States
pub mod Numbers
pub mod Checks
pub mod Follows
pub mod Texts
