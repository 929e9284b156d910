pub mod Verdicts
pub mod Calls
pub mod Waits
