pub mod Faults
pub mod Tables
pub mod Calls
pub mod Slots
pub mod Reference
pub mod Steps
pub mod Promises
