-- What only bodies and proofs speak of.
pub mod Parts
pub mod Written
