pub use Rattle.ml_ratio.specs.Floor
pub use Rattle.ml_ratio.specs.Geometry
pub mod Best
pub mod Ring
pub mod Scan
pub mod Pairs
pub mod Anchor
