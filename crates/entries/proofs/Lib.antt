-- laying out, and a call on what is stored
pub mod Calling
-- the demands
pub mod Demand1
pub mod Demand2
pub mod Demand3
