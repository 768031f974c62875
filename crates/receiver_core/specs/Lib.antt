pub mod Reception
pub mod UnreadParts
pub mod Hearing
pub mod StandsFor
pub mod Answers
pub mod Steps
pub mod Laws
pub mod Bound
