pub mod Appended
pub mod Journals
pub mod Keeping
pub mod NodeRestarts
pub mod NodeSteps
pub mod Nodes
pub mod Standing
pub mod Weighed
