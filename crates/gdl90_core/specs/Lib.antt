pub mod CheckSequence
pub mod Framing
pub mod Stream
pub mod Reading
pub mod StandsFor
pub mod Laws
