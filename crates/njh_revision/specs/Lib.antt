pub mod Giving
pub mod News
pub mod Origins
pub mod Outcomes
pub mod Revisions
