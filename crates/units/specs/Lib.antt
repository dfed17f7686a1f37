pub mod Kinds
pub mod Sets
pub mod Crews
pub mod Stocks
pub mod CrewLaws
pub mod Digits
pub mod Counts
pub mod LowestFirst
