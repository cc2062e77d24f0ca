-- What is proved. A reader who trusts the checker need not read it.
-- Small laws of the definitions.
pub mod State
-- What they compute: the replay listing, listings with the Rust's answers, P1 to P9.
pub mod Computed
pub mod Examples
pub mod Cases
pub mod Misreadings
-- Laws that a reader would ask for.
pub mod Reason
pub mod Flag
pub mod Circle
pub mod Arrivals
pub mod Refusals
pub mod Answers
pub mod Moves
pub mod Frame
pub mod Codes
pub mod Midway
pub mod Walk
pub mod Base
pub mod CellLaws
pub mod Queues
pub mod Broken
pub mod HonestLog
pub mod Places
pub mod NearestLaw
-- A call keeps validity, rule by rule; Valid has the whole.
pub mod Ascending
pub mod Steps
pub mod CellsKept
pub mod CellsCalls
pub mod Fixed
pub mod CellsMoved
pub mod Unique
pub mod Weights
pub mod Accounts
pub mod AccountLaw
pub mod SumsKept
pub mod InRange
pub mod Ranges
pub mod RangesKept
pub mod Acknowledging
pub mod RangesCalls
pub mod Counts
pub mod Rounds
pub mod CallLaw
pub mod InHand
pub mod Waits
pub mod EveryCall
pub mod MemberMoves
pub mod Released
pub mod SendLeaves
pub mod Valid
pub mod Sound
-- What a poll gives lies in the store.
pub mod Given
