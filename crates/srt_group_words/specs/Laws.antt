-- What is proved. A reader who trusts the checker need not read it.
pub mod Record
pub mod Words
pub mod Begin
pub mod New
pub mod Past
