pub mod ByteLemmas
pub mod FieldLemmas
pub mod HeaderLemmas
pub mod ApduLemmas
pub mod WritingLemmas
pub mod Scenes
