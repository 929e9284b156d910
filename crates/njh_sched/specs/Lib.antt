pub mod Tight
pub mod NextBlock
pub mod Fronts
pub mod Having
pub mod Laws
pub mod Carrying
pub mod code
