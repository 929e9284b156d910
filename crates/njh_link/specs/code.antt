-- What only bodies and proofs speak of.
pub mod Steps
