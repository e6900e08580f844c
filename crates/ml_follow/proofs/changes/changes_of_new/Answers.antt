use Rattle.std.proofs.Common.{List, ℕ, sym, subst}
use Rattle.ml_follow.specs.Changes.{IsTakenIn}
use Rattle.ml_follow.proofs.Changing.{new_step}
use Rattle.ml_follow.proofs.changes.changes_of_new.Goals as goal

pub loop-label-preserved : goal.loop-label-preserved
loop-label-preserved c =
    let taken = subst (λ (id : List ℕ). IsTakenIn c.args.old.now c.args.new.now id c.loop-label.out.items c.push_change.new.out.items) c.id.ensures c.in_ok-push_change.ensures in
    new_step c.args.old.now c.args.new.now c.requires.new c.loop-label.label-index c.label-item.result c.loop-label.out.items
    c.push_change.new.out.items c.loop-label-test.true (sym c.label-item.is) c.loop-label.invariant taken
