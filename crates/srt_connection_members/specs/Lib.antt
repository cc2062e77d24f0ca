pub mod Members
-- What is proved.
pub mod Laws
