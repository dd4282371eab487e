pub mod Allowed
pub mod Effect
pub mod Lawful
pub mod Leap
pub mod Meeting
pub mod Skip
