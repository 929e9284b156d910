pub mod Moves
pub mod Sayings
pub mod LineConnections
pub mod code
