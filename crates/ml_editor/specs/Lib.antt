pub use Rattle.ml_ratio.specs.Refusal
pub mod State
pub mod Faults
pub mod Features
pub mod Editing
pub mod Outcome
pub mod Standing
pub mod Changing
