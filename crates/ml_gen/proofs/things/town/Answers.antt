use Rattle.std.proofs.Common.{sym, subst}
use Rattle.ml_ratio.specs.Feature.{HaveScalars, AreAscending}
use Rattle.ml_gen.proofs.Props.{town_scalars, town_ascending}
use Rattle.ml_gen.proofs.things.town.Goals as goal

pub invariant_of-result-clause-scalars : goal.invariant_of-result-clause-scalars
invariant_of-result-clause-scalars c = subst HaveScalars (sym c.in_ok-props.ensures) (town_scalars c.args.pop.now c.requires.pop)

pub invariant_of-result-clause-ascending : goal.invariant_of-result-clause-ascending
invariant_of-result-clause-ascending c = subst AreAscending (sym c.in_ok-props.ensures) (town_ascending c.args.pop.now)
