-- The definitions, in the order in which to read them. They are all that a reader has to believe.
pub mod Tools
pub mod State
pub mod Accounts
pub mod Core
pub mod Legs
pub mod Members
pub mod Nearest
pub mod Run
pub mod Collecting
pub mod Delivery
pub mod Polls
pub mod Removal
pub mod Sending
pub mod Backup
pub mod Cells
pub mod Queued
pub mod Validity
pub mod Guards
pub mod Calls
pub mod Lent
pub mod Answers
pub mod Codes
-- The replay listing.
pub mod Listing
-- Words of the inner functions' contracts.
pub mod Sound
-- What a poll gives lies in the store.
pub mod Given
-- What is proved.
pub mod Laws
