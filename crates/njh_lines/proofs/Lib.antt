mod AllowedLaws
mod AskingLaws
mod CallLaws
mod EntranceLaws
mod GroupLaws
mod MomentLaws
pub mod PostLaws
mod ProtocolLaws
mod RestLaws
mod RoundLaws
pub mod StateLaws
mod StillLaws
mod WatchLaws
mod WireLaws
