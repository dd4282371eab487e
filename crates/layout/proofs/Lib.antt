pub mod Faithful
pub mod Frames
pub mod Listed
pub mod Fitting
pub mod Images
pub mod Viewed
