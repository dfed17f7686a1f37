pub mod Bytes
pub mod Filings
pub mod Files
pub mod Faults
pub mod Reading
