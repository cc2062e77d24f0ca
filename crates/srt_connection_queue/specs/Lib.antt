pub mod Row
pub mod Rows
pub mod Queue
-- What is proved.
pub mod Laws
