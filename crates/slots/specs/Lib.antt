pub mod Lists
pub mod Stepped
pub mod Steps
pub mod Settlings
pub mod SlotLists
pub mod Theorems
pub mod Loose
