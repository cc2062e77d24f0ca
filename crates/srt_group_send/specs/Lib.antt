pub mod Answers
pub mod Sends
pub mod Readiness
-- What is proved.
pub mod Laws
