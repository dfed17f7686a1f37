pub mod Entries
pub mod Noted
pub mod Stays
pub mod Checked
pub mod Promised
pub mod FiledNoted
pub mod FiledPromised
