pub mod Facts
pub mod MeetingLaws
pub mod Nearest
pub mod Numbered
pub mod Replying
