pub mod StepLaws
pub mod OutLaws
pub mod GivenLaws
pub mod OwedLaws
