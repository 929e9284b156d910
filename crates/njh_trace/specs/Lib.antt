pub mod Pieces
pub mod Sources
pub mod Trace
pub mod code
