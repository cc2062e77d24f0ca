-- What is proved. A reader who trusts the checker need not read it.
pub mod Begins
pub mod Promised
pub mod Polled
pub mod Port
