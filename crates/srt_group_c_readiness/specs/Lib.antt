-- What is proved.
pub mod laws
