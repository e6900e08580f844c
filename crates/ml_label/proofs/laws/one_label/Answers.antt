use Rattle.ml_label.proofs.OnePlacing.{PlaceLaws}
use Rattle.ml_label.proofs.OneLabel.{one_label}
use Rattle.ml_label.proofs.laws.one_label.Goals as goal

pub returns : goal.returns
returns c =
    let laws : PlaceLaws = record { anchor = c.one_area_anchor.ensures; river = c.one_place.ensures } in
    one_label laws
