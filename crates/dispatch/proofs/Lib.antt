pub mod CrewLawful
pub mod Held
pub mod Turns
mod Called
