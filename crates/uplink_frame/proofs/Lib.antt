pub mod FrameList
pub mod Spelled
pub mod HeaderBits
pub mod Pushed
pub mod ReadBack
pub mod Scenes
pub mod Bodies
pub mod Stations
