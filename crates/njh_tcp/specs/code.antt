-- What only bodies and proofs speak of.
pub mod Room
pub mod Scanner
pub mod Scans
