use Rattle.std.proofs.Common.{sym, subst}
use Rattle.ml_cone.specs.Label.{IsLabelList}
use Rattle.ml_follow.specs.Follower.{MayBeHeld}
use Rattle.ml_follow.proofs.follower.Follower.labels.Goals as goal

pub returns-in-Some-clause-ordered : goal.returns-in-Some-clause-ordered
returns-in-Some-clause-ordered c =
    let adopted = subst MayBeHeld c.in-Some.is c.self.invariant in
    subst IsLabelList (sym c.as_slice.ensures) adopted.ordered
