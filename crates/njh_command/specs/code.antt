-- What only bodies and proofs speak of.
pub mod Changes
pub mod Looking
