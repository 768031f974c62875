pub mod NamingLemmas
pub mod DateLemmas
pub mod YearLemmas
pub mod LatestLemmas
pub mod TimeLemmas
pub mod RoundTripLemmas
