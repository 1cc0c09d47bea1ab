pub mod RegisterCases
pub mod Cases
pub mod Reached
