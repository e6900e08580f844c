pub use Rattle.ml_cone.specs.Label
pub mod Name
pub mod Straight
pub mod Placing
pub mod Seen
pub mod Labelling
pub mod Labels
