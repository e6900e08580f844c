use Rattle.std.proofs.Common.{refl}
use Rattle.ml_grid.proofs.Packing.{packs}
use Rattle.ml_grid.proofs.end.End.of.Goals as goal

pub returns : goal.returns
returns c = packs _ _ c.args.ratio.now (rw (c.num.ensures, c.den.ensures) refl)
