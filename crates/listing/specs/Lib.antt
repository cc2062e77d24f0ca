pub mod Column
pub mod Line
pub mod Text
pub mod Placed
pub mod Stream
pub mod Held
-- What is proved.
pub mod Laws
