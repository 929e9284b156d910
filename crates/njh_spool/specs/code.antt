-- What only bodies and proofs speak of.
pub mod ChainedBlocks
pub mod Chains
pub mod Growing
pub mod Packing
pub mod RecordReader
pub mod SlotRows
pub mod Slots
pub mod BlocksOfFiles
