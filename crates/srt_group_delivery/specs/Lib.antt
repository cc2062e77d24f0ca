pub mod Delivery
pub mod Poll
-- What is proved.
pub mod Laws
