-- What proofs of other crates may cite: a sorted list of different elements rises.
pub mod Sorted
