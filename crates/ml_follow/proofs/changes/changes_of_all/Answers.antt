use Rattle.std.proofs.Common.{◌⊎◌, List, ℕ, sym, subst, arith}
use Rattle.std.proofs.lemmas.List.{take_all}
use Rattle.ml_cone.specs.declared.label.Label.{Label}
use Rattle.ml_follow.specs.Changes.{HasId, AreChangesAmong, IsTakenIfGone}
use Rattle.ml_follow.proofs.Changing.{all_start, all_step}
use Rattle.ml_follow.proofs.changes.changes_of_all.Goals as goal

pub loop-label-init : goal.loop-label-init
loop-label-init c = all_start c.args.old.now c.args.new.now c.requires.old c.in_ok-out.out.items c.in_ok-out.ensures

pub loop-label-preserved : goal.loop-label-preserved
loop-label-preserved c =
    let taken = subst (λ (id : List ℕ). IsTakenIfGone c.args.old.now c.args.new.now id c.loop-label.out.items c.push_gone.new.out.items) c.id.ensures c.in_ok-push_gone.ensures in
    all_step c.args.old.now c.args.new.now c.requires.old c.loop-label.label-index c.label-item.result c.loop-label-test.true
    (sym c.label-item.is) c.loop-label.out.items c.push_gone.new.out.items c.loop-label.invariant taken

pub returns : goal.returns
returns c =
    let P : List Label → Type 0 = λ ls. AreChangesAmong c.args.old.now c.args.new.now (λ id. HasId c.args.new.now.labels.now id ⊎ HasId ls id) c.loop-label.out.items in
    subst P (take_all c.loop-label.label-index c.args.old.now.labels.now (omega arith)) c.loop-label.invariant
