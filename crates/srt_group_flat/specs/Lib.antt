pub mod Words
-- What is proved.
pub mod Laws
