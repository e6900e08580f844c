use Rattle.ml_follow.proofs.Changing.{all_changes}
use Rattle.ml_follow.proofs.changes.changes_between.Goals as goal

pub returns : goal.returns
returns c =
    let h = all_changes c.in_ok-old.old c.in_ok-new.new c.in_ok-changes.changes.items c.by_id.result c.in_ok-changes.ensures c.by_id.ensures.same c.by_id.ensures.ascending in
    rw (c.in_ok-old.ensures.labels, c.in_ok-old.ensures.slots, c.in_ok-new.ensures.labels, c.in_ok-new.ensures.slots) at h
