pub mod Soundness
pub mod Standing
pub mod Sessions
pub mod Telling
