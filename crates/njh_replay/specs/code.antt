-- What only bodies and proofs speak of.
pub mod LineStarts
pub mod PrintedLaws
pub mod RunPieces
