pub mod Answers
pub mod Stands
pub mod Sound
pub mod Offers
pub mod Slips
pub mod Shown
pub mod Promise
pub mod Theorems
