-- What only bodies and proofs speak of.
pub mod PlainBytes
pub mod Scanner
