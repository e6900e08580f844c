mod Along
mod Classes
mod LabelsLemmas
pub mod lemmas
mod Names
mod Setting
mod Widths
mod OneLabel
mod OnePlacing
mod OrderLemmas
mod SoFar
mod Spaces
