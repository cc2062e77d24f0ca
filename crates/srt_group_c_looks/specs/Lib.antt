pub mod Look
pub mod Listed
-- What is proved.
pub mod Laws
