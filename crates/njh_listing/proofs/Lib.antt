mod AskedLaws
mod FaultLaws
mod MapLaws
mod MovedLaws
mod OrderLaws
