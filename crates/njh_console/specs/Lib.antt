pub mod Acts
pub mod Consoles
pub mod Desks
pub mod Orders
pub mod Rounds
pub mod Scenes
pub mod Seats
pub mod code
