use Rattle.std.proofs.Common.{◌≡◌, ◌++◌, ◌∷◌, [], rules}
use Rattle.ml_label.proofs.SoFar.{with_label, without_label, all_labelled}
use Rattle.ml_label.proofs.labels.unsorted.Goals.{in-Ok+in_ok-push-in-Ok, in-Err}
use Rattle.ml_label.proofs.labels.unsorted.Goals as goal

pub loop-feature-preserved : goal.loop-feature-preserved
loop-feature-preserved c = elim c.match-branch-2.branch [
  | in-Ok+in_ok-push-in-Ok w ↦
      let grown : c.match-branch-2.labels.items ≡ c.loop-feature.labels.items ++ w.in-Ok.label ∷ [] = search rules in
      with_label c.args.style.now c.args.features.now c.loop-feature.feature-index c.loop-feature.labels.items c.feature-item.result w.in-Ok.label
      c.match-branch-2.labels.items c.loop-feature-test.true c.feature-item.is (rw w.in-Ok.is at c.in_ok-label.ensures) grown c.loop-feature.invariant
  | in-Err w ↦
      let grown : c.match-branch-2.labels.items ≡ c.loop-feature.labels.items = search rules in
      without_label c.args.style.now c.args.features.now c.loop-feature.feature-index c.loop-feature.labels.items c.feature-item.result w.in-Err._reason
      c.match-branch-2.labels.items c.loop-feature-test.true c.feature-item.is (rw w.in-Err.is at c.in_ok-label.ensures) grown c.loop-feature.invariant
]

pub returns : goal.returns
returns c = all_labelled c.args.style.now c.args.features.now c.loop-feature.feature-index c.loop-feature.labels.items c.loop-feature-test.false c.loop-feature.invariant
