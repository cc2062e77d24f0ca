pub mod Stale
pub mod Trimming
pub mod Replay
pub mod TakeOver
pub mod OwnSend
-- What is proved.
pub mod Laws
