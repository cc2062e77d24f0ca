-- What is proved. A reader who trusts the checker need not read it.
pub mod Promised
pub mod Readiness
pub mod Making
