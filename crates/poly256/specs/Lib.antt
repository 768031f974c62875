pub mod Polynomial
pub mod Laws
