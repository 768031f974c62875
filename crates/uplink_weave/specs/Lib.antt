pub mod Woven
pub mod Functions
pub mod Laws
