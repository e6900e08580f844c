-- The entries that a view sees, by the cells of its window.
use Rattle.std.proofs.Common.{◌≡◌, sym, ℕ, ◌+◌, ◌^◌, ◌≤◌, arith, subst, ℤ, ◌↔◌, inl, inr}
use Rattle.std.proofs.Math.Nat.{pow-le-pow_right}
use Rattle.std.proofs.lemmas.Bool.{cases_lt}
use Rattle.std.proofs.lemmas.Nat.{mul-le}
use Rattle.ml_ratio.specs.Fraction.{Fraction, value_of, IsAtMost}
use Rattle.ml_ratio.specs.Band.{IsInBand}
use Rattle.ml_ratio.specs.declared.ratio.Ratio.{Ratio}
use Rattle.ml_cone.specs.Cells.{IsAmongCells}
use Rattle.ml_cone.specs.Cell.{CellInView}
use Rattle.ml_cone.specs.declared.cells.Cells.{Cells}
use Rattle.ml_cone.specs.declared.view.View.{View}
use Rattle.ml_grid.specs.Column.{IsAmongFrom}
use Rattle.ml_grid.specs.Entry.{Entry}
use Rattle.ml_grid.specs.Found.{IsSeen}

-- a fraction lies in one band alone
band_low : (s : Fraction) (j k : ℕ) → IsInBand s j → IsInBand s k → j ≤ k
band_low s j k h i =
    elim (cases_lt k j) [
      | inl less ↦
          let p : 2 ^ (k + 1) ≤ 2 ^ j = (let e : k + 1 ≤ j = omega arith in pow-le-pow_right (omega arith) e) in
          let q = mul-le (2 ^ (k + 1)) s.den (2 ^ j) s.den p (omega arith) in
          let r = h.from (omega arith) in
          let t = i.below in
          absurd (omega arith)
      | inr more ↦ more
    ]

-- two bands in which a fraction lies are one
pub one_band : (s : Fraction) (j k : ℕ) → IsInBand s j → IsInBand s k → j ≡ k
one_band s j k h i = let a = band_low s j k h i in let b = band_low s k j i h in omega arith

-- a view sees an entry just if its cell meets the window in the band of the scale and it ends at the scale at the earliest
pub is_seen : (v : View) (cells : Cells) (s : Ratio) → IsInBand (value_of v.scale) cells.band → ((x y : ℤ) → IsAmongCells cells x y ↔ CellInView v cells.band x y) → s ≡ v.scale → (e : Entry) →
    IsSeen v e ↔ IsAmongFrom cells s e
is_seen v cells s band meets is e = (
  λ h.
      let same = one_band (value_of v.scale) e.key.band cells.band h.band band in
      let cell : CellInView v cells.band e.key.x e.key.y = subst (λ (k : ℕ). CellInView v k e.key.x e.key.y) same h.meets in
      ((same, (meets e.key.x e.key.y).1 cell), subst (λ (t : Ratio). IsAtMost (value_of t) (value_of e.end)) (sym is) h.lasts),
  λ h.
      let cell = (meets e.key.x e.key.y).0 h.0.1 in
      record {
        band = subst (λ (k : ℕ). IsInBand (value_of v.scale) k) (sym h.0.0) band;
        meets = subst (λ (k : ℕ). CellInView v k e.key.x e.key.y) (sym h.0.0) cell;
        lasts = subst (λ (t : Ratio). IsAtMost (value_of t) (value_of e.end)) is h.1;
      },
)
