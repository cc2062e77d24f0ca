pub mod Freeing
pub mod Lendable
pub mod Recording
pub mod Flows
-- What is proved.
pub mod Laws
