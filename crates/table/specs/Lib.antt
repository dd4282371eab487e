pub mod Objects
pub mod Orderly
pub mod Owners
