pub mod Queued
-- What is proved.
pub mod Laws
