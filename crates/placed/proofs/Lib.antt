pub mod Standing
pub mod Leaving
pub mod Entering
pub mod Acting
pub mod Sounds
