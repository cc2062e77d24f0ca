pub mod Blocks
-- What is proved.
pub mod Laws
