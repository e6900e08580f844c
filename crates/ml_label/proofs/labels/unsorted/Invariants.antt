use Rattle.std.proofs.Common.{List, ◌++◌, drop}
use Rattle.ml_cone.specs.declared.label.Label.{Label}
use Rattle.ml_label.specs.Labels.{AreUnsorted}
use Rattle.ml_label.proofs.labels.unsorted.Given as goal

-- whatever labels those features have that are still to come: behind the labels so far they are the labels of all
abbrev pub invariant-loop-feature : goal.invariant-loop-feature
invariant-loop-feature l =
    (rest : List Label) → AreUnsorted l.style (drop l.feature-index l.features) rest → AreUnsorted l.style l.features (l.labels.items ++ rest)
