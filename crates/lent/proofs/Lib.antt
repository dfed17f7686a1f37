pub mod Blanks
pub mod Filled
pub mod Turned
pub mod Refills
pub mod Sifts
