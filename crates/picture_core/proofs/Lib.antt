pub mod Keys
pub mod KeysRising
pub mod PicturesFound
pub mod PicturesShown
pub mod PicturesStep
pub mod Pictures
mod RadarLife
pub mod PicturesLife
pub mod PicturesForgotten
pub mod KeptPairs
pub mod KindsKept
pub mod MarkedKept
pub mod CodeOrder
pub mod PicturesChanged
pub mod PicturesCounted
