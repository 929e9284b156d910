-- What only bodies and proofs speak of.
pub mod MovesLaws
pub mod LineLaws
