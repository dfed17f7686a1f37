pub mod Changes
pub mod Edited
pub mod Lacking
pub mod Onward
pub mod Rooms
pub mod SiftedAre
pub mod Spans
pub mod Spots
pub mod Splits
pub mod Unique
pub mod Whole
mod Loosely
