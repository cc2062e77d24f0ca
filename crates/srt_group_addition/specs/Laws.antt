-- What is proved. A reader who trusts the checker need not read it.
pub mod Addition
pub mod Cells
pub mod Handed
pub mod Promised
