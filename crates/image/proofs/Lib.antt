pub mod Fits
pub mod Records
pub mod RoundTrip
pub mod SoundImage
pub mod Made
