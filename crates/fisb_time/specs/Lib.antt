pub mod Moment
pub mod CivilDate
pub mod TimeForm
pub mod TimeFields
pub mod Naming
