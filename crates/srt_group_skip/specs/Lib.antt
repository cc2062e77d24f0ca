pub mod Skip
-- What is proved.
pub mod Laws
