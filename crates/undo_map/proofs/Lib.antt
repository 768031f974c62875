pub mod StepLemmas
pub mod PlaceLemmas
pub mod EndLemmas
pub mod ForwardLemmas
pub mod OverLemmas
pub mod QueueLemmas
