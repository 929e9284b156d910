pub mod Arrivals
pub mod Laws
