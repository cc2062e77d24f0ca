-- What is proved.
pub mod Laws
pub mod Turns
