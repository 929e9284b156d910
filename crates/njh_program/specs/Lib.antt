pub mod ProgramOutcome
pub mod ShownText
pub mod SpoolService
