pub mod LentGroup
pub mod Begins
pub mod Promised
pub mod Past
-- What is proved.
pub mod Laws
