-- What only bodies and proofs speak of.
pub mod Reading
pub mod Puts
