pub mod Lines
pub mod Ledger
pub mod Promise
pub mod FiledLines
pub mod FiledPromise
