mod ControlLaws
mod RequestLaws
mod WordLaws
