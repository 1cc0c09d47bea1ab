pub mod ReachedProofs
pub mod WorkedProofs
