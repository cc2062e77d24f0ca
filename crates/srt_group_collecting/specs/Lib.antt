pub mod Leaves
pub mod Collect
pub mod Visit
pub mod Gather
pub mod Follows
-- What is proved.
pub mod Laws
