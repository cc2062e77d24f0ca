-- What is proved. A reader who trusts the checker need not read it.
pub mod Refresh
pub mod Quiet
pub mod EventPoll
pub mod DataPoll
pub mod PollsUsed
pub mod Straight
pub mod StraightPolls
