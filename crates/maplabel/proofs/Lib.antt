mod Accepted
mod Completeness
mod GenStops
mod RunLemmas
mod OneTotals
mod OneRun
