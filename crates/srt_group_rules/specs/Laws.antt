-- What is proved. A reader who trusts the checker need not read it.
pub mod Ids
pub mod Rules
pub mod Sums
pub mod Walks
