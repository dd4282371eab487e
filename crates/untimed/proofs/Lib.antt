pub mod Laid
pub mod Passing
