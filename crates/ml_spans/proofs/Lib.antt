mod Lists
mod Entries
mod Greatest
mod Forks
mod Found
mod Rising
mod Depth
mod Digits
mod Members
mod Placed
mod Raised
mod Renewed
mod Replaced
mod Results
pub mod lemmas
mod Wanted
