-- What is proved. A reader who trusts the checker need not read it.
pub mod Handshake
pub mod Errors
pub mod Circle
pub mod CellLaws
