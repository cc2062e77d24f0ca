-- What is proved. A reader who trusts the checker need not read it.
pub mod Bits
pub mod Sets
pub mod Shows
pub mod Marks
