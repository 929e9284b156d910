pub mod Checks
pub mod Status
pub mod TableBytes
pub mod TableChecks
pub mod Tasks
