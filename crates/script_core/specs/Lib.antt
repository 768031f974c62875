pub mod Script
pub mod Fields
pub mod LineView
pub mod Laws
pub mod Printed
