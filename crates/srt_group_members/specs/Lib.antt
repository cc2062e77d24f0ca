pub mod Scan
pub mod Rank
pub mod Admission
pub mod Alignment
pub mod Refresh
pub mod Turns
pub mod Quiet
-- What is proved.
pub mod Laws
