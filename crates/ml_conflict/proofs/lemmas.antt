-- What proofs of other crates may cite: facts of the field of labels from west to east.
pub mod Fields
pub mod Strips
