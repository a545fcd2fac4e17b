mod AnswerFacts
pub mod CaseFacts
mod DecisionFacts
mod FaultFacts
mod LeastFacts
mod LeftFacts
mod LookupFacts
mod MarkFacts
mod MissedFacts
mod NumberFacts
mod OutcomeFacts
mod RootFacts
mod RuleFacts
mod StepFacts
mod TableFacts
mod UserFacts
