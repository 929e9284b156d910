pub mod Choices
pub mod Commands
pub mod Arguments
pub mod Shown
