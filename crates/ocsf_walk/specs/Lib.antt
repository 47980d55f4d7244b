pub mod Typed
pub mod Given
pub mod Ranges
pub mod Digits
pub mod Speakers
pub mod Walk
