pub mod Telling
pub mod Verbs
-- What is proved.
pub mod Laws
