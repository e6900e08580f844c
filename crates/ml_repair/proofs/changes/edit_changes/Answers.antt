use Rattle.ml_repair.proofs.Joining.{joined_same, joined_own}
use Rattle.ml_repair.proofs.changes.edit_changes.Goals as goal

pub by_id-requires : goal.by_id-requires
by_id-requires c = joined_own c.args.roster.now c.args.moves.now c.args.edited c.in_ok-changes.changes.items
    c.push_edited.new.out.items c.in_ok-changes.ensures.are c.in_ok-changes.ensures.own c.requires.own c.in_ok-push_edited.ensures

pub returns-clause-same : goal.returns-clause-same
returns-clause-same c x =
    let s = joined_same c.args.roster.now c.args.moves.now c.args.edited c.in_ok-changes.changes.items c.push_edited.new.out.items c.in_ok-changes.ensures.are c.in_ok-push_edited.ensures x in
    let t = c.by_id.ensures.same x in
    (λ h. s.0 (t.0 h), λ h. t.1 (s.1 h))
