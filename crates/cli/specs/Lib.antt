pub mod CommandLine
pub mod Requests
pub mod Plain
