-- What proofs of other crates may cite: facts of fractions, intervals, bands, whole numbers, lists and numerals.
pub mod Anys
pub mod Bands
pub mod Fractions
pub mod Intervals
pub mod Lists
pub mod Numerals
pub mod Rounding
pub mod Sorting
