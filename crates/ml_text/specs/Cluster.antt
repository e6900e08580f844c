-- The pieces of a text that a reader sees as one character each.
use Rattle.std.specs.Prelude.{ℕ, ◌-◌, ◌^◌, List, map, min, true}
use Rattle.unicode_segmentation.specs.Grapheme.{graphemes}
use Rattle.ml_style.specs.declared.font.Font.{Font}
use Rattle.ml_text.specs.Width.{advance_sum}
use Rattle.ml_text.specs.declared.cluster.Cluster.{Cluster}

-- a piece of a text with the sum of its advances, of which 2^64 - 1 stands for all that is greater
abbrev pub cluster_of : Font → List ℕ → Cluster
cluster_of font piece = record { text = piece; advance = min (advance_sum font piece) (2 ^ 64 - 1) }

-- the extended grapheme clusters of a text, in order
abbrev pub clusters_of : Font → List ℕ → List Cluster
clusters_of font text = map (cluster_of font) (graphemes true text)
