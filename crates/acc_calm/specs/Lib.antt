pub mod MessageCounts
