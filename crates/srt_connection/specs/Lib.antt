pub mod Answers
pub mod Readings
-- What is proved.
pub mod Laws
