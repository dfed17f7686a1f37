pub mod Numbers
mod Opened
pub mod ReadBack
pub mod Rewritten
