pub mod Orders
pub mod Boards
pub mod Lists
pub mod Few
pub mod Grants
pub mod Found
pub mod Numbers
