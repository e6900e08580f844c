-- What proofs of other crates may cite: facts of the events of a stream that goes on, and of bytes that are taken.
pub mod Streams
pub mod Takes
