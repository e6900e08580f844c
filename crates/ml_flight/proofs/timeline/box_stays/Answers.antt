use Rattle.std.proofs.Common.{◌≡◌, ◌+◌, ◌≤◌, ◌∷◌, ◌++◌, [], arith, ap, length, ◌∙◌, subst, sym, List}
use Rattle.ml_flight.specs.Shown.{BoxInWindow, IsInWindow}
use Rattle.ml_cone.specs.declared.label.BoxPx.{BoxPx}
use Rattle.ml_flight.specs.declared.stay.Stay.{Stay}
use Rattle.ml_ratio.proofs.lemmas.Anys.{any_whole, any_of_whole}
use Rattle.ml_flight.proofs.Boxes.{Pieces, pieces_more, pieces_same}
use Rattle.ml_flight.proofs.timeline.box_stays.Goals as goal
use Rattle.ml_flight.proofs.timeline.box_stays.Goals.{in-Some-box_stay+in_ok-push, in_default-box_stay}

pub loop-p-preserved : goal.loop-p-preserved
loop-p-preserved c =
    let same = c.as_slice-p-items.ensures ∙ c.boxes.ensures in
    elim c.match-box_stay.branch [
      | in-Some-box_stay+in_ok-push w ↦
          let e : c.match-box_stay.pieces.items ≡ c.loop-p.pieces.items ++ w.in-Some-box_stay.piece ∷ [] = rw w.pieces-is w.in_ok-push.ensures.items in
          subst (λ (l : List Stay). Pieces (λ p s. BoxInWindow c.args.label.now c.args.at.now p s) c.in-Some.whole c.args.label.now.boxes (c.loop-p.p-index + 1) l) (sym e)
          (pieces_more (λ p s. BoxInWindow c.args.label.now c.args.at.now p s) c.in-Some.whole c.args.label.now.boxes _ c.loop-p.p-index
          _ c.loop-p.pieces.items w.in-Some-box_stay.piece same (omega arith) c.loop-p.invariant w.in-Some-box_stay.ensures)
      | in_default-box_stay w ↦ rw w.pieces-is (pieces_same (λ p s. BoxInWindow c.args.label.now c.args.at.now p s)
          c.in-Some.whole c.args.label.now.boxes _ c.loop-p.p-index _ c.loop-p.pieces.items same (omega arith) c.loop-p.invariant
          (λ s. (w.in_default-box_stay.ensures s).1))
    ]

pub returns : goal.returns
unfolding IsInWindow
returns c s =
    let span = c.in-Some.ensures s in
    let P = λ (p : BoxPx). BoxInWindow c.args.label.now c.args.at.now p s in
    let over : length c.args.label.now.boxes ≤ c.loop-p.p-index = omega (arith, ap length (c.as_slice-p-items.ensures ∙ c.boxes.ensures)) in
    let so_far = c.loop-p.invariant s in (
      λ h. so_far.1 (span.1 (h.0, h.1), any_whole P c.args.label.now.boxes c.loop-p.p-index over h.2),
      λ h. let w = so_far.0 h in let active = span.0 w.0 in (active.0, active.1, any_of_whole P c.args.label.now.boxes c.loop-p.p-index over w.1),
    )
