pub mod Time
pub mod Handshake
pub mod Errors
pub mod Circle
pub mod Sequence
pub mod Cells
-- What is proved.
pub mod Laws
