pub mod Stacked
pub mod WritingLaws
pub mod RoundTrip
