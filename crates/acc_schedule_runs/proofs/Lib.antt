pub mod Answered
pub mod Answering
pub mod Beginnings
mod Counting
pub mod Drained
mod Ended
pub mod GivesRuns
mod InLine
mod Joined
mod Made
pub mod NobodyDown
pub mod OneRun
pub mod OneStop
pub mod OneStrictRun
pub mod Reached
mod Skips
pub mod StopLists
mod StoppedSteps
mod StrictInLine
mod StrictWhole
pub mod Unarmed
