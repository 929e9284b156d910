pub mod Flags
pub mod Nodes
pub mod Places
pub mod RoundTrip
