mod Found
mod Journals
mod LowNodes
mod LowStores
mod Opened
mod OpenedCluster
mod Taking
mod Whole
