pub mod Draws
pub mod Texts
pub mod Blocks
pub mod Hearings
pub mod Step
pub mod Workload
pub mod Progress
pub mod Laws
