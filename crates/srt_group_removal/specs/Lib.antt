pub mod Retire
pub mod Removal
pub mod Connection
-- What is proved.
pub mod Laws
