pub mod Beginnings
pub mod LineLaws
pub mod PieceLaws
mod WrittenUpTo
