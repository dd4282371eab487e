pub mod Lists
pub mod Members
pub mod Records
pub mod Shape
pub mod Whole
