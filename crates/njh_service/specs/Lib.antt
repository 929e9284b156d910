pub mod Bureaus
pub mod Opening
pub mod Presences
pub mod Rereading
pub mod Revising
pub mod Serving
