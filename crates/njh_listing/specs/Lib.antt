pub mod Asked
pub mod Exported
pub mod Faults
pub mod Listed
pub mod Moved
pub mod Printed
pub mod Taken
pub mod code
