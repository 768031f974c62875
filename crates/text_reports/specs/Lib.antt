pub mod TextKey
pub mod Front
pub mod Views
