pub mod BundleFaults
pub mod ByNames
pub mod Layered
pub mod Listed
pub mod Printed
pub mod Clashes
pub mod SoundItems
