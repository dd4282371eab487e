-- a call on an image, by the model's
pub mod Calling
-- the demands
pub mod Demand1
pub mod Demand2
pub mod Demand3
pub mod Lengths
