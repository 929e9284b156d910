pub mod Addresses
pub mod Remembered
pub mod Waiting
pub mod Next
pub mod Rooms
pub mod code
