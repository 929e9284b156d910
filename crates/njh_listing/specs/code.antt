-- What only bodies and proofs speak of.
pub mod FindingSteps
pub mod Lent
