-- What only bodies and proofs speak of.
pub mod CopySteps
pub mod Sending
