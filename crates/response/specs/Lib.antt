pub mod Searches
pub mod Bounds
pub mod Runs
pub mod Curves
pub mod Views
pub mod Words
pub mod Analysis
pub mod CurveLemmas
