mod Showing
mod Scales
mod LawLemmas
mod Stretching
pub mod lemmas
