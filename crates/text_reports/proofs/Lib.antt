pub mod Cutting
pub mod Keys
pub mod Fronts
pub mod Spelling
