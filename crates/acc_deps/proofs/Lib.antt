pub mod Adopted
pub mod ByShard
mod Merge
mod ShardMerge
mod Within
