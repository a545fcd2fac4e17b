mod ActorFacts
pub mod AnswerFacts
mod ApartFacts
mod BuiltFacts
mod ClusterFacts
mod DocumentFacts
mod EachFacts
pub mod FieldFacts
mod KeptFacts
mod NameFacts
mod PathFacts
mod PlanFacts
mod RootFacts
mod ShardFacts
mod TextFacts
mod TransactionFacts
