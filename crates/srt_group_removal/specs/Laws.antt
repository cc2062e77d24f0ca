-- What is proved. A reader who trusts the checker need not read it.
pub mod Queue
pub mod Retire
pub mod Removal
pub mod Connection
pub mod Calls
