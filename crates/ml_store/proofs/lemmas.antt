-- What proofs of other crates may cite: new slots, one after another, and numbers of rows as one comes or goes.
pub mod Moved
pub mod Numbered
