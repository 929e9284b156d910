mod BureauLaws
mod ClosingLaws
mod EndpointLaws
mod RevisingLaws
mod ServedLaws
mod ServiceLaws
