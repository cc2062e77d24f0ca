pub mod Taken
pub mod Text
pub mod Answers
-- What is proved.
pub mod Laws
