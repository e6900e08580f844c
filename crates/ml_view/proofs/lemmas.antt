-- What proofs of other crates may cite: words write one number, one ratio and one view.
pub mod OneView
