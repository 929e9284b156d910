pub mod MemberLaws
pub mod Parting
pub mod QuoteLaws
pub mod ReadLaws
