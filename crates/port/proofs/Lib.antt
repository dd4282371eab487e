-- images as tables, and what the port's functions make of them
pub mod Images
-- what a user of the C port is promised
pub mod Promises
