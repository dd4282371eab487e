pub mod Demands
pub mod Unfit
