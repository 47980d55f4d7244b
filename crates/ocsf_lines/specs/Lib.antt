pub mod Lines
pub mod Run
pub mod Exchange
pub mod Ends
pub mod Feeding
pub mod Closing
pub mod Reading
