pub mod Addition
pub mod Handed
-- What is proved.
pub mod Laws
