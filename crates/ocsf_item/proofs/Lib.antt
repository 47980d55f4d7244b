pub mod DictLayers
pub mod Ordered
pub mod Joinings
pub mod Leasts
pub mod ClassParts
pub mod Assembling
pub mod AttrsByName
