mod Searching
mod Assigning
mod RowLemmas
mod TableLemmas
mod SlotLines
mod Placed
mod OneTable
mod Gathering
