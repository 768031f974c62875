pub mod UplinkFrame
pub mod Station
pub mod Ties
pub mod AppDataBytes
pub mod Views
pub mod Spelling
pub mod Laws
