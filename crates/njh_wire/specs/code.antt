-- What only bodies and proofs speak of.
pub mod TallyLaws
pub mod WithheldLaws
