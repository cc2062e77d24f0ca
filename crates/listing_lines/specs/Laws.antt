-- What is proved. A reader who trusts the checker need not read it.
pub mod Rows
pub mod Taken
pub mod Text
pub mod Answers
