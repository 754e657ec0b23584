-- The lemmas.
pub mod Tables
pub mod Rules
pub mod Changes
pub mod Following
pub mod Numbers
