pub mod Looks
-- What is proved.
pub mod Laws
