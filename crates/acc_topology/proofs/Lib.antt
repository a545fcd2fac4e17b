pub mod Bits
pub mod Counts
pub mod Ends
pub mod Rules
pub mod Listed
pub mod Accepted
pub mod Shares
