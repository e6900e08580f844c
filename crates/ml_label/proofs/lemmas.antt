-- What proofs of other crates may cite: ascending lists, places, ratios and labels that are the same.
pub mod SameLists
pub mod SamePlaces
pub mod SameLabels
