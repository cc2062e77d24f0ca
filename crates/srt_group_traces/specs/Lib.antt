-- Demand 3: the statement, its premises for a short schedule, and the same over what a port shows.
pub mod Statement
pub mod ShortSchedule
pub mod Port
pub mod PortTheorem
pub mod OwnCalls
pub mod VerbCalls
pub mod Listings
-- What is proved.
pub mod Laws
