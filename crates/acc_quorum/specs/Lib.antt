pub mod Answers
pub mod Meetings
