mod Digits
mod HeldLemmas
mod JudgeLemmas
mod LengthLemmas
mod Marks
mod ReaderLemmas
pub mod lemmas
