use Rattle.std.proofs.Common.{sym, ◌∙◌}
use Rattle.ml_ratio.specs.RatioExact.{ratio_exact}
use Rattle.ml_store.proofs.same.same_ends.Goals as goal

pub returns-in-Equal : goal.returns-in-Equal
returns-in-Equal c = ratio_exact c.args.one.now c.args.other.now (sym c.cmp.ensures ∙ c.in-Equal.is)
