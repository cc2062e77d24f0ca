-- What is proved. A reader who trusts the checker need not read it.
pub mod Delivery
pub mod Poll
pub mod UsedByDelivery
