pub mod Opened
pub mod OpenedFiles
pub mod LinesLost
pub mod Faults
pub mod Refusal
pub mod SetAside
pub mod Keeper
pub mod code
