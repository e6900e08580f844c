mod Told
mod Hearings
mod Putting
mod Sorting
mod Spellings
