-- What is proved. A reader who trusts the checker need not read it.
pub mod Look
pub mod Listed
