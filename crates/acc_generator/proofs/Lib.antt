mod BodyFacts
mod DocumentFacts
mod DrawFacts
pub mod Feed
mod NameFacts
mod PieceFacts
mod PlanFacts
mod PlanRules
mod RuleFacts
mod TextFacts
mod TokenFacts
pub mod Written
