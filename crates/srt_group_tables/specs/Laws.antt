-- What is proved. A reader who trusts the checker need not read it.
pub mod Ring
pub mod PacketIndex
pub mod PacketLaws
pub mod Covered
pub mod Waitings
