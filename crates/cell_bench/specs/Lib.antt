pub mod Made
-- What is proved.
pub mod Laws
