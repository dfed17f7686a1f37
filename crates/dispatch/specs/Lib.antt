pub mod Running
pub mod Calling
pub mod Grants
