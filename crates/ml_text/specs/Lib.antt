pub use Rattle.unicode_segmentation.specs.Grapheme
pub use Rattle.ml_style.specs.Font
pub mod Cluster
pub mod Label
pub mod Width
