pub mod QuotedFacts
pub mod DigitFacts
pub mod Words
