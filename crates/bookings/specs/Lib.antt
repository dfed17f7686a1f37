pub mod Bookings
pub mod States
pub mod Rows
pub mod Table
pub mod Refusals
pub mod Grants
pub mod Theorems
