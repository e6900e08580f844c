use Rattle.std.proofs.Common.{◌∙◌, ap, sym, refl, map, w64, ◌-◌, ◌∷◌, []}
use Rattle.std.specs.Prelude.{replicate}
use Rattle.std.proofs.lemmas.Int.{to_z-of_z}
use Rattle.ml_cone.specs.declared.order.Order.{Order}
use Rattle.ml_pass.proofs.RowLemmas.{label_from, whole_fits}
use Rattle.ml_pass.proofs.row.read_label.Goals as goal

pub returns : goal.returns
returns c =
    let fields = c.args.fields.now in
    let hx = whole_fits fields.x.now c.in-Some-Some.x (sym c.in-Some-Some.ensures) in
    let hy = whole_fits fields.y.now c.in-Some-Some.y (sym c.in-Some-Some.ensures') in
    let order : Order = record { class = c.args.place; rank = 0; id = c.in_ok-id.id } in
    let pieces = c.in_ok-pieces.ensures ∙ ap (λ n. fields.id.now ∷ replicate (n - 1) []) c.len.ensures in
    label_from fields.id.now fields.x.now fields.y.now fields.min.now fields.max.now (map (λ part. part.now) fields.boxes.now) c.args.place
    order c.in-Some-Some.x c.in-Some-Some.y c.in-Some.boxes c.in_ok-pieces.pieces c.in-Some-Some-2.min c.in-Some-Some-2.max
    (c.is_id.ensures.0 c.if-not-is_id.false) refl refl c.in_ok-id.ensures (sym c.in-Some-Some.ensures) (sym c.in-Some-Some.ensures')
    (rw c.in-Some-Some-2.is-0 at c.read.ensures) c.in-Some-Some-2.ensures (rw c.in-Some.is at c.in_ok-boxes.ensures) pieces c.of-2.result
    (simp (to_z-of_z w64 c.in-Some-Some.x hx, to_z-of_z w64 c.in-Some-Some.y hy) at c.of-2.ensures)
