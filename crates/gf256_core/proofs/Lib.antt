pub mod Sums
pub mod Remainders
pub mod OneRemainder
pub mod Products
pub mod Pigeonhole
pub mod Rows
pub mod FieldLaws
