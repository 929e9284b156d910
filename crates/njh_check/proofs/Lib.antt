pub mod Loops
pub mod Passwords
pub mod Ports
mod ScriptReasonLaws
