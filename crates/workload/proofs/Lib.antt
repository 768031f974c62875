pub mod DrawLemmas
pub mod CellLemmas
pub mod ChangeLemmas
pub mod PartLemmas
pub mod Transitions
pub mod Ranges
pub mod Fits
