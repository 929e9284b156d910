pub mod AnswerLaws
pub mod CallLaws
pub mod PageLaws
pub mod RoomLaws
pub mod RoundLaws
pub mod SeatLaws
pub mod TalkLaws
pub mod TurnLaws
