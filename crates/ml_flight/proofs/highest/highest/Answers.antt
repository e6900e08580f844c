use Rattle.std.proofs.Common.{◌≡◌, ℕ, ◌+◌, ◌-◌, ◌≤◌, slice_index_or, arith, sym, ◌∙◌, ap, subst, inl, inr}
use Rattle.std.proofs.lemmas.Bool.{cases_lt}
use Rattle.std.proofs.lemmas.List.{get_or_default}
use Rattle.ml_ratio.specs.Fraction.{value_of}
use Rattle.ml_flight.specs.Sweep.{open_at, ended}
use Rattle.ml_flight.specs.declared.place.Place.{Place}
use Rattle.ml_flight.proofs.Sweeping.{highest_keep, highest_take}
use Rattle.ml_flight.proofs.highest.highest.Goals as goal

pub overflow_sub-open : goal.overflow_sub-open
overflow_sub-open c =
    let at : ended c.args.ends.now (value_of c.index-begins-k.result.mark) ≤ c.loop-k.k + 1 =
    subst (λ (p : Place). ended c.args.ends.now (value_of p.mark) ≤ c.loop-k.k + 1) (sym c.index-begins-k.is) (c.requires.ended c.loop-k.k c.index-begins-k.result c.loop-k-test.true) in
    omega arith

pub overflow_cast-here : goal.overflow_cast-here
overflow_cast-here c =
    let at : (c.loop-k.k + 1) - ended c.args.ends.now (value_of c.index-begins-k.result.mark) ≤ 32768 =
    subst (λ (p : Place). (c.loop-k.k + 1) - ended c.args.ends.now (value_of p.mark) ≤ 32768) (sym c.index-begins-k.is) (c.requires.few c.loop-k.k c.index-begins-k.result c.loop-k-test.true) in
    rw c.ended_by.ensures (omega arith)

pub loop-k-preserved : goal.loop-k-preserved
loop-k-preserved c =
    let at : (d : Place) → c.index-begins-k.result ≡ slice_index_or c.args.begins.now c.loop-k.k d =
    λ d. c.index-begins-k.is ∙ get_or_default c.args.begins.now c.loop-k.k c.index-begins-k.result d c.loop-k-test.true in
    let count : (d : Place) → (c.loop-k.k + 1) - c.ended_by.result ≡ open_at c.args.begins.now c.args.ends.now c.loop-k.k d =
    λ d. ap (λ (n : ℕ). (c.loop-k.k + 1) - n) c.ended_by.ensures ∙ ap (λ (p : Place). (c.loop-k.k + 1) - ended c.args.ends.now (value_of p.mark)) (at d) in
    elim (cases_lt c.loop-k.best.count ((c.loop-k.k + 1) - c.ended_by.result)) [
      | inl more ↦ rw (c.better-best.ensures.more more) (highest_take c.args.begins.now c.args.ends.now c.loop-k.k c.loop-k.best _ c.loop-k.invariant more count
          (λ d. ap (λ (p : Place). p.mark) (at d)) (λ d. ap (λ (p : Place). p.after) (at d)))
      | inr few ↦ rw (c.better-best.ensures.kept few) (highest_keep c.args.begins.now c.args.ends.now c.loop-k.k c.loop-k.best c.loop-k.invariant (λ d. rw (← count d) few))
    ]
