mod ControlLaws
mod EndpointLaws
pub mod OpenedLaws
