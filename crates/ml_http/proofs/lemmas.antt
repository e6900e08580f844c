-- What proofs of other crates may cite: changes see of a slot the end alone.
pub mod SameChanges
