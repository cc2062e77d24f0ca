pub mod SentList
pub mod OwnSend
pub mod Broadcast
pub mod Readiness
pub mod BackupReadiness
-- What is proved.
pub mod Laws
