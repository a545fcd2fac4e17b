mod ByteCounts
pub mod Shortness
pub mod Rising
pub mod Known
pub mod DepsFormats
pub mod RecordFormats
pub mod PartFormats
pub mod RequestFormats
pub mod ReplyFormats
pub mod MessageFormat
mod Stability
mod BodyStability
mod MessageStability
mod AtHand
mod Shared
