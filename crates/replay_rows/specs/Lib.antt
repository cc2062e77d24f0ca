pub mod Rows
-- What is proved.
pub mod Laws
