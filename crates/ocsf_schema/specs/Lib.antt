pub mod Bases
pub mod Count
pub mod Print
pub mod Schema
pub mod Lookups
pub mod Joining
