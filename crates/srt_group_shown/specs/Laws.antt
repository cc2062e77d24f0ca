-- What is proved. A reader who trusts the checker need not read it.
pub mod Shown
pub mod Ready
pub mod Steps
pub mod Found
