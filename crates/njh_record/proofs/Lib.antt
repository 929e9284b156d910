pub mod Fronts
pub mod Steps
pub mod ReadingLaws
mod Pairs
pub mod ReadBack
pub mod AnswerLaws
pub mod Runs
pub mod WritingLaws
mod Measured
mod Skips
