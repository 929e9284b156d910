pub mod MovedLaws
pub mod OneFrameLaws
pub mod WithheldLaws
pub mod PromptLaws
pub mod TallyLaws
pub mod ByTcpLaws
pub mod RoomLaws
pub mod DepartureLaws
