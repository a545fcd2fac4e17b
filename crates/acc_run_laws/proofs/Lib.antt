pub mod Addresses
mod AloneEverywhere
mod AloneNodes
mod AloneOutcomes
pub mod AskFacts
pub mod AskedFacts
pub mod Begun
pub mod Bounded
pub mod ByteBounds
pub mod Cells
pub mod Clocks
mod Contents
pub mod Everywhere
pub mod FewNotes
pub mod Layouts
pub mod LostFacts
pub mod NodeBounds
pub mod Nodes
pub mod Outcomes
pub mod ReceiverFacts
pub mod RunBounds
pub mod Sendable
pub mod ShortMessages
pub mod Stages
pub mod StoreBounds
pub mod StoreCounts
mod Stores
pub mod Unions
