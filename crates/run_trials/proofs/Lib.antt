pub mod Unfailed
pub mod Scenes
