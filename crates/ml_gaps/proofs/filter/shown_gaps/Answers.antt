use Rattle.std.proofs.Common.{◌<◌, ◌≡◌, ◌∙◌, sym, length, slice_index_or, arith, subst}
use Rattle.std.proofs.lemmas.List.{get_or_default}
use Rattle.ml_ratio.specs.Fraction.{value_of}
use Rattle.ml_cone.specs.Shown.{IsInView}
use Rattle.ml_cone.specs.declared.label.Label.{Label}
use Rattle.ml_gaps.specs.Gap.{IsActive}
use Rattle.ml_gaps.specs.Gaps.{IsShownGap}
use Rattle.ml_gaps.specs.declared.gap.Gap.{Gap}
use Rattle.ml_gaps.proofs.Finding.{found_skip, found_more}
use Rattle.ml_gaps.proofs.filter.shown_gaps.Goals as goal
use Rattle.ml_gaps.proofs.filter.shown_gaps.Goals.{then-is_shown+in_ok-push, else-is_shown}

pub loop-i-preserved : goal.loop-i-preserved
loop-i-preserved c =
    let labels = c.args.labels.now in
    let gaps = c.args.gaps.now in
    let view = c.args.view.now in
    let i = c.loop-i.i in
    let P = IsShownGap labels gaps view in
    let lt : i < length labels = omega arith in
    let one = c.requires.one_each in
    let lt' : i < length gaps = omega arith in
    let label : (d : Label) → c.index-labels-i.result ≡ slice_index_or labels i d = λ d. c.index-labels-i.is ∙ get_or_default labels i c.index-labels-i.result d lt in
    let gap : (e : Gap) → c.index-gaps-i.result ≡ slice_index_or gaps i e = λ e. c.index-gaps-i.is ∙ get_or_default gaps i c.index-gaps-i.result e lt' in
    elim c.if-is_shown.branch [
      | then-is_shown+in_ok-push w ↦
          let here = c.is_shown.ensures.0 w.if-is_shown.true in
          rw (w.places-is ∙ w.in_ok-push.ensures.ok) (found_more P i c.loop-i.places c.loop-i.invariant
          (lt, λ d e. (subst (λ (g : Gap). IsActive g (value_of view.scale)) (gap e) here.0, subst (λ (a : Label). IsInView a view) (label d) here.1)))
      | else-is_shown w ↦
          let fails : ¬ (P i) = λ is.
          let both = is.1 c.index-labels-i.result c.index-gaps-i.result in
          let shown = c.is_shown.ensures.1 (
            subst (λ (g : Gap). IsActive g (value_of view.scale)) (sym (gap c.index-gaps-i.result)) both.0,
            subst (λ (a : Label). IsInView a view) (sym (label c.index-labels-i.result)) both.1,
          ) in
          let never = sym w.if-is_shown.false ∙ shown in
          absurd (cc) in
          rw w.places-is (found_skip P i c.loop-i.places c.loop-i.invariant fails)
    ]

pub returns : goal.returns
returns c = record {
  ascending = c.loop-i.invariant.ascending;
  sound = c.loop-i.invariant.sound;
  whole = λ i is. c.loop-i.invariant.whole i (omega (arith, is.0)) is;
}
