pub mod Shown
pub mod Tables
pub mod Ready
pub mod Steps
-- What is proved.
pub mod Laws
