pub mod NumberLaws
pub mod MemoryLaws
pub mod QueueLaws
pub mod SeatLaws
