pub mod Talks
pub mod Links
pub mod Acts
pub mod code
