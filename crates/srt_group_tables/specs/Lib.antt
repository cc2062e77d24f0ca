pub mod Ring
pub mod Packets
pub mod Covered
pub mod Waitings
-- What is proved.
pub mod Laws
