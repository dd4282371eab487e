pub mod Ours
-- whatever meets the demands is ours
pub mod Fixed
pub mod Only
-- what doesn't meet them, and that it can be had
pub mod Unfit
pub mod There
