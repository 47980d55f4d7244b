pub mod Layers
pub mod Table
pub mod Merged
pub mod Fold
pub mod Laws
