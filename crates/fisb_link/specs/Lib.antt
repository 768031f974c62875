pub mod Hearing
pub mod LinkPicture
pub mod PicturesAgree
