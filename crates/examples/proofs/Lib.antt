pub mod Opened
pub mod Hold
