pub mod FrameLaws
mod EncodedSoFar
mod FrameBackLaws
mod LineLaws
mod OrderLaws
mod PackingLaws
mod PostedLaws
mod ReadBackLaws
mod ReadingLaws
