pub mod Faults
pub mod Ends
pub mod Memory
pub mod Standard
pub mod Faithful
pub mod Pieces
