pub mod Places
pub mod Frames
pub mod Parts
pub mod Functions
