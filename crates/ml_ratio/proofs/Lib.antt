mod Floors
mod Gauss
mod LineLemmas
mod Numbers
pub mod lemmas
