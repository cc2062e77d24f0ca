-- What is proved. A reader who trusts the checker need not read it.
pub mod Scan
pub mod Rank
pub mod Admission
pub mod Alignment
pub mod Refresh
pub mod Turns
pub mod Quiet
