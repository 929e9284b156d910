pub mod Words
pub mod Commands
pub mod Files
pub mod CommandLaws
pub mod code
