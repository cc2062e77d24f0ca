pub mod Refresh
pub mod EventPoll
pub mod DataPoll
pub mod Straight
-- What is proved.
pub mod Laws
