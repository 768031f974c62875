pub mod Field
pub mod Tables
pub mod Rows
pub mod UatLaws
pub mod Laws
