mod ClaimOrder
mod Decision
mod First
mod Judging
mod Ruled
