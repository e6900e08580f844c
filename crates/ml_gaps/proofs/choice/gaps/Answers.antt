use Rattle.std.proofs.Common.{◌≡◌, ℕ, ◌↔◌, List, length, slice_index_or, arith, rules, subst, sym, ◌∙◌}
use Rattle.std.proofs.lemmas.List.{get_or_default}
use Rattle.std.proofs.lemmas.List.Elements.{All-nil}
use Rattle.ml_ratio.specs.Fraction.{Fraction, value_of}
use Rattle.ml_cone.specs.declared.label.Label.{Label}
use Rattle.ml_gaps.specs.Blocked.{IsBlockedBy}
use Rattle.ml_gaps.specs.Piece.{HaveScale}
use Rattle.ml_gaps.specs.Bundle.{IsBundle}
use Rattle.ml_gaps.specs.declared.gap.Gap.{Gap}
use Rattle.ml_gaps.proofs.Choosing.{chosen_none, chosen_more, longest_free, longest_like}
use Rattle.ml_gaps.proofs.Nears.{nears_none, nears_more}
use Rattle.ml_gaps.proofs.Strips.{strips_none, strips_more, enough}
use Rattle.ml_gaps.proofs.choice.gaps.Goals as goal

pub longest_of-gap-requires : goal.longest_of-gap-requires
longest_of-gap-requires c s h = let (j, b, g, lt, e, e', blocked) = (c.in_ok-pieces.ensures s).0 h in blocked.1

pub pieces_of-requires-clause-enough : goal.pieces_of-requires-clause-enough
pieces_of-requires-clause-enough c =
    let (reach, reaches, gathers) = c.in_ok-gather.ensures in
    rw (c.as_slice.ensures, c.as_slice-in-loop-label-2.ensures.value)
    (enough c.parting_axis-axis.result c.label-item.result c.args.labels.now c.loop-label.gaps c.loop-label.index.bundles.items reach
    c.loop-label.places.items c.gather.new.places.items c.loop-label.invariant.free c.loop-label.invariant.strips reaches gathers)

pub loop-label-init : goal.loop-label-init
loop-label-init c = record {
  chosen = chosen_none c.args.labels.now _ c.new-gaps.ensures;
  empty = search rules;
  free = search rules;
  nears = nears_none c.args.labels.now _ _ c.new-gaps.ensures (search rules);
  bundles = rw c.in_ok-index.ensures (All-nil IsBundle);
  strips = strips_none c.parting_axis-axis.result c.args.labels.now _ _ c.new-gaps.ensures c.in_ok-index.ensures;
}

pub loop-label-preserved : goal.loop-label-preserved
loop-label-preserved c =
    let labels = c.args.labels.now in
    let i = c.loop-label.label-index in
    let gaps = c.loop-label.gaps in
    let a : Label = c.label-item.result in
    let axis = c.parting_axis-axis.result in
    let so_far = c.loop-label.invariant.chosen in
    let one : length gaps ≡ i = so_far.one_each in
    let blocks : (s : Fraction) → HaveScale c.in_ok-pieces.pieces.items s ↔ IsBlockedBy a labels gaps i s =
    λ s. subst (λ (n : ℕ). HaveScale c.in_ok-pieces.pieces.items s ↔ IsBlockedBy a labels gaps n s) one
    (subst (λ (l : List Gap). HaveScale c.in_ok-pieces.pieces.items s ↔ IsBlockedBy a labels l (length l) s) c.as_slice.ensures (c.in_ok-pieces.ensures s)) in
    let own : (d : Label) → slice_index_or labels i d ≡ a = λ d. get_or_default labels i d a c.loop-label-test.true ∙ sym c.label-item.is in
    let last : (d : Label) → slice_index_or labels (length gaps) d ≡ a = λ d. subst (λ (n : ℕ). slice_index_or labels n d ≡ a) (sym one) (own d) in
    let best = longest_free labels gaps i a own c.loop-label-test.true (omega arith) (value_of c.longest_of-gap.result.from) (value_of c.longest_of-gap.result.until)
    (longest_like a (HaveScale c.in_ok-pieces.pieces.items) (IsBlockedBy a labels gaps i) blocks
    (value_of c.longest_of-gap.result.from) (value_of c.longest_of-gap.result.until) c.longest_of-gap.ensures) in
    record {
      chosen = rw c.in_ok-push-2.ensures.ok (chosen_more labels i gaps c.longest_of-gap.result so_far best);
      empty = search rules;
      free = search rules;
      nears = rw (c.in_ok-push-2.ensures.ok, c.in_ok-push.ensures.items) (nears_more labels gaps c.loop-label.nears.items i a
          c.longest_of-gap.result c.of-near.result one c.loop-label-test.true c.label-item.is c.loop-label.invariant.nears c.of-near.ensures);
      bundles = c.in_ok-add_strip.ensures.bundles;
      strips = rw c.in_ok-push-2.ensures.ok (
          strips_more axis labels gaps c.loop-label.index.bundles.items c.loop-label.invariant.strips c.longest_of-gap.result a c.about-strip.result
          c.add_strip.new.index.bundles.items last (c.about-strip.ensures.place ∙ c.len.ensures)
          (c.about-strip.ensures.about (value_of c.longest_of-gap.result.until) c.of-near.ensures) c.in_ok-add_strip.ensures.adds);
    }
