mod FreeReports
mod FreeCounts
