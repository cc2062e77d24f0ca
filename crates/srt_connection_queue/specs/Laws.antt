-- What is proved. A reader who trusts the checker need not read it.
pub mod Tab
pub mod Row
pub mod Rows
pub mod Queue
pub mod Chains
