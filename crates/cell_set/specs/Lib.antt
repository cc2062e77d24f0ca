pub mod Bits
pub mod Sets
pub mod Shows
pub mod Marks
-- What is proved.
pub mod Laws
