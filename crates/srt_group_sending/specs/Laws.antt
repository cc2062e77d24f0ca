-- What is proved. A reader who trusts the checker need not read it.
pub mod SentList
pub mod Rows
pub mod OwnSend
pub mod Broadcast
pub mod Readiness
pub mod BackupReadiness
