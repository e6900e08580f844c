use Rattle.std.proofs.Common.{◌≡◌, ◌∙◌, sym, ap}
use Rattle.ml_store.specs.declared.row.Row.{Row}
use Rattle.ml_repair.proofs.NearRosters.{row_there}
use Rattle.ml_repair.proofs.OneRow.{one_number}
use Rattle.std.proofs.lemmas.List.{get_or_default}
use Rattle.ml_repair.proofs.planning.place_of_id.Goals as goal
use Rattle.ml_ratio.proofs.lemmas.Lists.{map_read}

pub returns-clause-here : goal.returns-clause-here
returns-clause-here c d =
    let rows = c.args.store.now.rows in
    let at = c.in-Some-place_of.at in
    let lt = c.in-Some-place_of.ensures.place.0 in
    let s = row_there rows at lt in
    let r = c.in-Some.ensures in
    let e : s.0 ≡ r.0 = one_number rows s.0 r.0 (at, lt, sym s.1) r.1 c.in-Some-place_of.ensures.numbered.differ
    (sym (map_read (λ (t : Row). t.number) rows at s.0 0 lt s.1) ∙ c.in-Some-place_of.ensures.place.1 ∙ sym r.3) in
    ap (λ (t : Row). t.label.order.id) (get_or_default rows at d s.0 lt ∙ sym s.1 ∙ e) ∙ r.2
