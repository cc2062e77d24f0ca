-- What is proved. A reader who trusts the checker need not read it.
pub mod Stale
pub mod Trimming
pub mod Replay
pub mod TakeOver
pub mod OwnSend
