pub mod Cells
pub mod Noted
pub mod Walks
