mod ActorFacts
mod LeaveFacts
mod PayloadFacts
mod NodeFacts
mod DrawFacts
mod PlaceFacts
mod ItemFacts
mod LaneFacts
mod NodeWalk
mod StoreWalk
mod DocumentFacts
pub mod TableFacts
mod MessageFacts
mod RuleFacts
pub mod OrderFacts
mod MemberFacts
pub mod AlikeFacts
pub mod FaultFacts
mod ReadFacts
mod RollFacts
mod BodyFacts
