mod ClusterLaws
mod Labels
mod Sums
