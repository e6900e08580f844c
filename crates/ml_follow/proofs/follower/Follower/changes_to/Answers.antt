use Rattle.std.proofs.Common.{sym, subst}
use Rattle.ml_cone.specs.Label.{IsLabelList}
use Rattle.ml_follow.proofs.follower.Follower.changes_to.Goals as goal

pub changes_between-requires-clause-new_ordered :
    goal.changes_between-requires-clause-new_ordered
changes_between-requires-clause-new_ordered c = subst IsLabelList (sym c.as_slice.ensures) c.requires.ordered
