-- What is proved. A reader who trusts the checker need not read it.
pub mod Freeing
pub mod Recording
pub mod Prepared
pub mod Flows
