pub mod Tables
pub mod PayloadChecks
pub mod AnswerChecks
