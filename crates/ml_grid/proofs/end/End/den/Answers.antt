use Rattle.std.proofs.Common.{ap}
use Rattle.ml_ratio.specs.declared.ratio.Ratio.{Ratio}
use Rattle.ml_grid.proofs.end.End.den.Goals as goal

pub returns : goal.returns
returns c = ap (λ (r : Ratio). r.den) c.self.view_is
