pub mod BackupSend
-- What is proved.
pub mod Laws
