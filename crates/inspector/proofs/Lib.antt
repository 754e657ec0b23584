pub mod Lines
pub mod Fitting
pub mod Printed
