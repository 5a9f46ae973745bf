pub mod AnswerLaws
pub mod GroupBack
pub mod Accepted
pub mod OutputReads
pub mod RoomLaws
pub mod RegroupReads
pub mod PlaceLaws
