pub mod Lines
pub mod Fields
pub mod FieldSteps
pub mod Orders
pub mod Items
pub mod Reading
pub mod Answers
