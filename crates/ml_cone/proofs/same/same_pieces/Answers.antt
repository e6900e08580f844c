use Rattle.std.proofs.Common.{◌≡◌}
use Rattle.std.proofs.lemmas.Slice.Eq.{slice_eq-Decides}
use Rattle.ml_cone.proofs.Equals.{matched, texts_decide}
use Rattle.ml_cone.proofs.same.same_pieces.Goals as goal

pub returns : goal.returns
returns c = matched (c.args.one.now ≡ c.args.other.now) c.eq.result (slice_eq-Decides texts_decide c.args.one.now c.args.other.now c.eq.result c.eq.ensures)
