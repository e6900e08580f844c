use Rattle.std.proofs.Common.{subst, sym, arith}
use Rattle.ml_editor.specs.State.{IsState}
use Rattle.maplabel.proofs.laws.first_is_reached.Goals as goal

pub returns : goal.returns
returns c told style map first is =
    let reached : IsState (record { style = is.classes; features = is.features; rev = 0 }) = record {
      own_ids = c.ids_differ.ensures is.has_map.0 is.features is.has_map.2;
      few = is.has_map.3;
      revision = omega arith;
    } in
    subst IsState (sym is.is) reached
