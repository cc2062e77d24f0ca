pub mod Legs
-- What is proved.
pub mod Laws
