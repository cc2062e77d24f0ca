-- What is proved. A reader who trusts the checker need not read it.
pub mod OneMember
pub mod Queueing
pub mod Events
pub mod Readings
pub mod Calls
