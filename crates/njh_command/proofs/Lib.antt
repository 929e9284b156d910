mod UpTo
mod FileLaws
mod SplitLaws
mod RecordLaws
mod ReplyLaws
mod WalkLaws
pub mod CommandMoves
pub mod RerouteNodes
pub mod HeadersKept
mod LookingLaws
