pub mod CodeWord
pub mod Functions
pub mod Instances
pub mod Laws
pub mod Mending
pub mod Rows
pub mod UplinkRows
