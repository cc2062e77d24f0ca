-- What is proved. A reader who trusts the checker need not read it.
pub mod Cells
pub mod Outside
pub mod Passes
pub mod Tested
