pub mod Verb
pub mod Lines
pub mod Told
-- What is proved.
pub mod Laws
