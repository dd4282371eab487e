pub mod ByNumber
pub mod InRange
pub mod Nearness
