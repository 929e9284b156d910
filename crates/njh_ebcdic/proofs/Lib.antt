pub mod Blanks
pub mod Filled
pub mod PageLaws
pub mod ReadBack
pub mod TableLaws
