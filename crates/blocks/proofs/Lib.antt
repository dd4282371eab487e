-- a block
pub mod Steps
pub mod Turns
-- a file in blocks
pub mod Seams
pub mod Whole
pub mod First
