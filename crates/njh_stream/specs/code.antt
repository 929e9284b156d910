-- What only bodies and proofs speak of.
pub mod HeadersSoFar
pub mod Agreement
pub mod Classes
pub mod FileRouting
pub mod Verdicts
