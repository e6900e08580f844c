-- The line of a verdict.
use Rattle.std.specs.Prelude.{ℕ, ◌<◌, ◌++◌, List, [], length, slice_index_or, codes}
use Rattle.ml_ratio.specs.Ratio.{ratio_text}
use Rattle.ml_cert.specs.declared.verdict.Verdict.{Verdict}
use Rattle.ml_cert.specs.declared.verdict.Verdict.TheVariants.{Best, BadEnd, Clash, Uncovered, BadBlocker}

-- the verdict's places are places of these
abbrev pub AreItsPlaces : {A : Type 0} → List A → Verdict → Type 0
AreItsPlaces labels Best = Unit {0}
AreItsPlaces labels (BadEnd i) = i < length labels
AreItsPlaces labels (Clash i j limit) = (i < length labels) × (j < length labels)
AreItsPlaces labels (Uncovered i) = i < length labels
AreItsPlaces labels (BadBlocker i) = i < length labels

-- the id at a place
abbrev pub id_at : List (List ℕ) → ℕ → List ℕ
id_at ids i = slice_index_or ids i []

-- the line: the name of the verdict; the label's id; of a clash also the id of the earlier label and the limit that it sets
abbrev pub verdict_line : List (List ℕ) → Verdict → List ℕ
verdict_line ids Best = codes "Best\n"
verdict_line ids (BadEnd i) = codes "BadEnd " ++ (id_at ids i ++ codes "\n")
verdict_line ids (Clash i j limit) = codes "Clash " ++ (id_at ids i ++ (codes " " ++ (id_at ids j ++ (codes " " ++ (ratio_text limit ++ codes "\n")))))
verdict_line ids (Uncovered i) = codes "Uncovered " ++ (id_at ids i ++ codes "\n")
verdict_line ids (BadBlocker i) = codes "BadBlocker " ++ (id_at ids i ++ codes "\n")
