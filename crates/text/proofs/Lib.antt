pub mod Decimal
pub mod Buffers
pub mod Examples
