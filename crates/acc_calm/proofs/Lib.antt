mod StoreCounts
mod StoresOnly
pub mod AttemptCounts
mod AttemptsShort
pub mod Delivered
pub mod ZeroBallots
pub mod Reactions
pub mod Reached
pub mod Courses
pub mod AllAnswered
pub mod Undecided
pub mod Named
pub mod ReadsAnswered
pub mod Finished
pub mod CalmRuns
