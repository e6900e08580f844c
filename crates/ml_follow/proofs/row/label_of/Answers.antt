use Rattle.std.proofs.Common.{rules, FitsSigned, ◌∙◌, ap₂, sym, refl, map, w64, ◌-◌, ◌∷◌, [], ℕ, List}
use Rattle.std.specs.Prelude.{replicate}
use Rattle.std.proofs.lemmas.Int.{to_z-of_z}
use Rattle.ml_cone.specs.declared.order.Order.{Order}
use Rattle.ml_follow.proofs.Rows.{label_from}
use Rattle.ml_follow.proofs.row.label_of.Goals as goal

pub returns : goal.returns
returns c =
    let words = c.args.words.now in
    let hx : FitsSigned w64 c.in-Some-Some.x = search rules in
    let hy : FitsSigned w64 c.in-Some-Some.y = search rules in
    let order : Order = record { class = c.args.place; rank = 0; id = c.in-Some-2.id } in
    let pieces = c.in_ok-pieces.ensures ∙ ap₂ (λ (t : List ℕ) (n : ℕ). t ∷ replicate (n - 1) []) c.as_str.ensures.bytes c.len.ensures in
    label_from c.one_spelling.ensures c.one_list.ensures words.id.now words.x.now words.y.now words.min.now words.max.now words.margin.now
    (map (λ part. part.now) words.boxes.now) c.args.place order c.in-Some-Some.x c.in-Some-Some.y c.in-Some-3.boxes c.in_ok-pieces.pieces
    c.in-Some-Some-2.min c.in-Some-Some-2.max c.in-Some.margin refl refl (rw c.in-Some-2.is at c.in_ok-id.ensures) (sym c.in-Some-Some.ensures)
    (sym c.in-Some-Some.ensures') (rw c.in-Some-Some-2.is-0 at c.read.ensures) c.in-Some-Some-2.ensures c.in-Some.ensures.1 c.in-Some.ensures.0
    (rw c.in-Some-3.is at c.in_ok-boxes.ensures) pieces c.of.result (simp (to_z-of_z w64 c.in-Some-Some.x hx, to_z-of_z w64 c.in-Some-Some.y hy) at c.of.ensures)
