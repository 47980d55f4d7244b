pub mod Building
pub mod Compiles
pub mod Layers
pub mod NoFiles
pub mod Sections
