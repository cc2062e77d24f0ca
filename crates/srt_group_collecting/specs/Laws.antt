-- What is proved. A reader who trusts the checker need not read it.
pub mod Leaves
pub mod Collect
pub mod Turn
pub mod Visit
pub mod Gather
pub mod Follows
pub mod Used
