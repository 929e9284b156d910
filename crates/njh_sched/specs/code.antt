-- What only bodies and proofs speak of.
pub mod FileCursor
pub mod Filling
pub mod Having
