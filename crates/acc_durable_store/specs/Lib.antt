pub mod Actor
pub mod Replay
pub mod Staged
pub mod Store
pub mod Weighing
