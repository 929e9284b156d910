mod FileLaws
mod LineForms
mod Lines
pub mod Parting
mod PlainLines
mod PrintSteps
mod PrintedParts
mod Printing
mod ReplayLaws
mod RunPieces
mod RunTexts
mod StartLaws
