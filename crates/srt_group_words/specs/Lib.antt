pub mod Record
pub mod Words
-- What is proved.
pub mod Laws
