pub mod Memory
pub mod Sifting
pub mod Lists
