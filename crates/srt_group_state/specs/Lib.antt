pub mod Cells
pub mod Outside
pub mod Passes
pub mod Tested
-- What is proved.
pub mod Laws
