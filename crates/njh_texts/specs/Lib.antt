pub mod Decimals
pub mod Texts
