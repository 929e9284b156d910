pub mod WrittenLaws
pub mod KeptLaws
pub mod UnitReader
pub mod FedLaws
pub mod PlainLaws
pub mod ReadBack
pub mod CallsLaws
pub mod RunLaws
