pub mod formers
pub mod Among
pub mod ByName
pub mod FirstOfEach
pub mod Given
pub mod Least
