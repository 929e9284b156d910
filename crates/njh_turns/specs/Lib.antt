pub mod Wires
pub mod Turns
pub mod WireLaws
pub mod Service
pub mod Keeping
pub mod Breaks
