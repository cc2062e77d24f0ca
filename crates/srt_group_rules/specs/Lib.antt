pub mod Ids
pub mod Rules
pub mod Sums
-- What is proved.
pub mod Laws
