mod Marks
mod Digits
mod FirstFields
mod Filling
pub mod LinesInOrder
mod NoneLost
mod WrittenNumbers
mod WrittenOrders
