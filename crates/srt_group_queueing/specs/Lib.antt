pub mod Queueing
-- What is proved.
pub mod Laws
