mod Added
mod Differ
mod Gone
mod Ids
mod Made
mod Orders
mod Props
mod Runs
