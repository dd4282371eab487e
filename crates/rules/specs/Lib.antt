pub mod Counting
pub mod Due
pub mod Reports
