pub mod Serials
pub mod HoldersLeft
pub mod Made
pub mod Bounds
pub mod Told
pub mod Searched
