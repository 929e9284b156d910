-- What only bodies and proofs speak of.
pub mod Looking
pub mod Pages
pub mod Talks
