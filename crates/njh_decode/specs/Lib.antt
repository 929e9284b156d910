pub mod Words
pub mod Faults
pub mod Heads
pub mod Records
pub mod Frames
