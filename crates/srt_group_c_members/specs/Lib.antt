pub mod LegBack
-- What is proved.
pub mod Laws
