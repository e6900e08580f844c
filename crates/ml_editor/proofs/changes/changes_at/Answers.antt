use Rattle.std.proofs.Common.{◌<◌, List, [], ◌∷◌, ◌++◌, length, take, subst, sym, ap, arith}
use Rattle.std.proofs.lemmas.List.{take_more, take_all}
use Rattle.ml_ratio.specs.declared.feature.Feature.{Feature}
use Rattle.ml_editor.specs.Changing.{AreChangesAt}
use Rattle.ml_editor.proofs.Changing.{none_yet, one_more_change}
use Rattle.ml_editor.proofs.States.{new_at}
use Rattle.ml_editor.proofs.changes.changes_at.Goals as goal

pub loop-feature-init : goal.loop-feature-init
loop-feature-init c = rw c.new-out.ensures.items (none_yet c.args.old.now.rows c.args.new.now.rows)

pub loop-feature-preserved : goal.loop-feature-preserved
loop-feature-preserved c =
    let fs = c.args.features.now in
    let k = c.loop-feature.feature-index in
    let f = c.feature-item.result in
    let lt : k < length fs = omega arith in
    let more = one_more_change c.args.old.now.rows c.args.new.now.rows (take k fs) f c.loop-feature.out.items c.push_change.new.out.items
    (new_at fs k f lt (sym c.feature-item.is) c.requires.differ) c.loop-feature.invariant c.in_ok-push_change.ensures in
    let P : List Feature → Type 0 = λ xs. AreChangesAt c.args.old.now.rows c.args.new.now.rows xs c.push_change.new.out.items in
    rw (take_more fs k f lt) (subst P (ap (λ g. take k fs ++ g ∷ []) c.feature-item.is) more)

pub returns : goal.returns
returns c =
    let P : List Feature → Type 0 = λ xs. AreChangesAt c.args.old.now.rows c.args.new.now.rows xs c.loop-feature.out.items in
    subst P (take_all c.loop-feature.feature-index c.args.features.now (omega arith)) c.loop-feature.invariant
