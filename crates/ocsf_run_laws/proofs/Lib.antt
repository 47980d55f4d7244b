pub mod OneEvent
pub mod OneOutput
pub mod SomeFolder
