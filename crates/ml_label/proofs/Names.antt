-- Names: what is not blank has a character, and so a cluster.
use Rattle.std.proofs.Common.{◌≡◌, ℕ, ◌<◌, List, [], ◌∷◌, map, length, true, false, arith}
use Rattle.std.specs.List.{concat}
use Rattle.ml_text.specs.declared.cluster.Cluster.{Cluster}
use Rattle.ml_label.specs.Name.{is_blank}

-- what is not blank is not empty
pub not_empty : (text : List ℕ) → is_blank text ≡ false → 0 < length text
not_empty [] h = absurd (let f : true ≡ false = h in cc)
not_empty (b ∷ bs) h = omega arith

-- clusters that make up some text are some
pub some_clusters : (all : List Cluster) (text : List ℕ) → concat (map (λ (c : Cluster). c.text) all) ≡ text → 0 < length text → 0 < length all
some_clusters [] [] joined some = some
some_clusters [] (b ∷ bs) joined some = absurd (let f : [] ≡ b ∷ bs = joined in cc)
some_clusters (c ∷ cs) text joined some = omega arith
