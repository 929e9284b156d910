pub mod Admitting
pub mod Dialling
pub mod Asking
pub mod Doors
pub mod Endpoints
pub mod Handles
pub mod Opened
