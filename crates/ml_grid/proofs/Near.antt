-- The labels near a view, by the grid's entries.
use Rattle.std.proofs.Common.{refl, lit<, ℕ, ◌+◌, ◌*◌, ◌^◌, ◌<◌, ◌≤◌, arith, subst, List, ◌↔◌, inl, inr}
use Rattle.std.proofs.Math.Nat.{pow-le-pow_right}
use Rattle.std.proofs.lemmas.Bool.{cases_lt}
use Rattle.std.proofs.lemmas.Nat.{mul-le}
use Rattle.ml_ratio.specs.Fraction.{Fraction, value_of, IsAtMost, IsLess}
use Rattle.ml_ratio.specs.Band.{IsInBand, MeetsBand}
use Rattle.ml_ratio.proofs.lemmas.Bands.{has_band}
use Rattle.ml_ratio.proofs.lemmas.Fractions.{less_is_at_most, at_most_trans, at_most_less}
use Rattle.ml_ratio.specs.declared.ratio.Ratio.{Ratio}
use Rattle.ml_cone.specs.Cell.{SeenCell}
use Rattle.ml_cone.specs.Choice.{ActiveUntil, IsEnd}
use Rattle.ml_cone.specs.Shown.{IsInView}
use Rattle.ml_spans.specs.Spans.{entry_of}
use Rattle.ml_cone.specs.declared.label.Label.{Label}
use Rattle.ml_cone.specs.declared.view.View.{View}
use Rattle.ml_grid.specs.Cell.{cell_of}
use Rattle.ml_grid.specs.Entry.{Entry, AreEntriesOf}
use Rattle.ml_grid.specs.Found.{IsNumberOf, IsSeen}
use Rattle.ml_grid.specs.Near.{IsNear}

whole : ℕ → Fraction
whole n = record { num = n; den = 1; positive = lit< tt }

scale_low : (v : View) (k : ℕ) → IsInBand (value_of v.scale) k → k < 28
scale_low v k h =
    elim (cases_lt k 28) [
      | inl less ↦ less
      | inr more ↦
          let p : 2 ^ 28 ≤ 2 ^ k = pow-le-pow_right (omega arith) more in
          let q = mul-le (2 ^ 28) v.scale.den (2 ^ k) v.scale.den p (omega arith) in
          let r = h.from (omega arith) in
          let t = v.below in
          absurd (omega arith)
    ]

-- where the end is at least the scale, the band of the scale meets the range as soon as the minimum is below its upper end
meets_below : (a : Label) (u : Ratio) (s : Fraction) (k : ℕ) → IsAtMost (value_of u) (value_of a.max) →
    IsAtMost s (value_of u) → IsInBand s k → a.min.num < 2 ^ (k + 1) * a.min.den → MeetsBand k (value_of a.min) (value_of a.max)
unfolding whole
meets_below a u s k most lasts band begins =
    let above : 0 < k → IsAtMost (whole (2 ^ k)) s = λ p. (let h = band.from p in omega arith) in
    let last : 0 < k → IsAtMost (whole (2 ^ k)) (value_of a.max) = λ p. at_most_trans (whole (2 ^ k)) s (value_of a.max) (above p) (at_most_trans s (value_of u) (value_of a.max) lasts most) in
    record { begins = begins; reaches = λ p. (let h = last p in omega arith) }

seen_of_near : (a : Label) (number : ℕ) (u : Ratio) (entries : List Entry) (v : View) → IsEnd a (value_of u) → AreEntriesOf number a u entries → IsNear a u v → IsNumberOf (IsSeen v) entries number
seen_of_near a number u entries v end its near =
    let cell = near.cell in
    let meets = meets_below a u (value_of v.scale) near.band end.1 near.lasts near.in_band near.begins in
    let entry = (its (entry_of (cell_of near.band cell.x cell.y) u number)).1
    (record { in_cell = record { low = scale_low v near.band near.in_band; meets = meets; among = cell.among }; its_end = refl; its_number = refl }) in
    (entry_of (cell_of near.band cell.x cell.y) u number, entry.0, refl, record { band = near.in_band; meets = cell.in_view; lasts = near.lasts })

near_of_seen : (a : Label) (number : ℕ) (u : Ratio) (entries : List Entry) (v : View) → AreEntriesOf number a u entries → IsNumberOf (IsSeen v) entries number → IsNear a u v
near_of_seen a number u entries v its seen =
    let e = seen.0 in
    let of_label = (its e).0 (seen.1, seen.2) in
    record {
      band = e.key.band;
      in_band = seen.3.band;
      begins = of_label.in_cell.meets.begins;
      lasts = subst (λ (t : Ratio). IsAtMost (value_of v.scale) (value_of t)) of_label.its_end seen.3.lasts;
      cell = record { x = e.key.x; y = e.key.y; among = of_label.in_cell.among; in_view = seen.3.meets };
    }

-- a view sees an entry of a label just if the label is near the view
pub near_exactly : (a : Label) (number : ℕ) (u : Ratio) (entries : List Entry) (v : View) → IsEnd a (value_of u) → AreEntriesOf number a u entries → IsNumberOf (IsSeen v) entries number ↔ IsNear a u v
near_exactly a number u entries v end its = (near_of_seen a number u entries v its, seen_of_near a number u entries v end its)

-- where hulls of labels in view have a cell in view, the view sees an entry of each label that is active at its scale and in view
pub seen_if_shown : ((a : Label) (v : View) (k : ℕ) → IsInBand (value_of v.scale) k → IsInView a v → SeenCell a v k) →
    (a : Label) (number : ℕ) (u : Ratio) (entries : List Entry) (v : View) → IsEnd a (value_of u) → AreEntriesOf number a u entries →
    ActiveUntil a (value_of u) (value_of v.scale) → IsInView a v → IsNumberOf (IsSeen v) entries number
unfolding whole
seen_if_shown seen_in_cell a number u entries v end its active shown =
    let band = has_band (value_of v.scale) 27 v.below in
    let below : IsLess (value_of v.scale) (whole (2 ^ (band.0 + 1))) = (let h = band.2.below in omega arith) in
    let first : IsLess (value_of a.min) (whole (2 ^ (band.0 + 1))) = at_most_less (value_of a.min) (value_of v.scale) (whole (2 ^ (band.0 + 1))) active.0 below in
    seen_of_near a number u entries v end its (record {
      band = band.0;
      in_band = band.2;
      begins = omega arith;
      lasts = less_is_at_most (value_of v.scale) (value_of u) active.1;
      cell = seen_in_cell a v band.0 band.2 shown;
    })
