-- Words write one view.
use Rattle.std.proofs.Common.{◌≡◌, ℕ, ℤ, pos, ◌*◌, ◌^◌, ◌%◌, ◌<◌, ◌≤◌, List, Option, Some, None, sym, ap, ◌∙◌, arith}
use Rattle.std.specs.Prelude.{MatchOption}
use Rattle.std.proofs.Props.{props}
use Rattle.std.proofs.Math.Nat.{eq_of_mul-eq-mul_right}
use mathlib.Core.HLevel.{is_prop→PathP}
use Rattle.ml_ratio.specs.Fraction.{value_of, IsSame}
use Rattle.ml_ratio.specs.Number.{whole_number}
use Rattle.ml_ratio.specs.Ratio.{IsRatioOf}
use Rattle.ml_ratio.specs.RatioText.{ratio_parts}
use Rattle.ml_ratio.specs.World.{IsInWorld}
use Rattle.ml_ratio.specs.declared.ratio.Ratio.{Ratio}
use Rattle.ml_ratio.proofs.lemmas.Intervals.{equal_ratio}
use Rattle.ml_cone.specs.declared.view.View.{View}
use Rattle.ml_view.specs.Words.{WritesView}

-- a word writes one number, and one fraction
pub one_whole : (word : Option ℤ) (y z : ℤ) → word ≡ Some y → word ≡ Some z → y ≡ z
one_whole word y z first second = let e : Some y ≡ Some z = sym first ∙ second in cc

-- a word writes the side of one window
pub one_side : (word : Option ℤ) (m n : ℕ) → word ≡ Some (pos m) → word ≡ Some (pos n) → m ≡ n
one_side word m n first second = let e : pos m ≡ pos n = one_whole word (pos m) (pos n) first second in cc

same_value : (o : Option (ℕ × ℕ)) (r s : Ratio) → MatchOption o (Some r ≡ None) (λ p. IsRatioOf p.0 p.1 (Some r)) →
    MatchOption o (Some s ≡ None) (λ p. IsRatioOf p.0 p.1 (Some s)) → IsSame (value_of r) (value_of s)
same_value None r s h k = absurd (cc)
same_value (Some p) r s h k =
    let one : r.num * p.1 ≡ p.0 * r.den = h.1 in
    let two : s.num * p.1 ≡ p.0 * s.den = k.1 in
    let left : r.num * p.1 * s.den ≡ p.0 * r.den * s.den = ap (λ (n : ℕ). n * s.den) one in
    let right : s.num * p.1 * r.den ≡ p.0 * s.den * r.den = ap (λ (n : ℕ). n * r.den) two in
    eq_of_mul-eq-mul_right p.1 h.0.positive (r.num * s.den) (s.num * r.den) (omega arith)

-- views with the same parts are the same: each fact of theirs has one proof at most
pub same_view : (v u : View) → v.cx ≡ u.cx → v.cy ≡ u.cy → v.w ≡ u.w → v.h ≡ u.h → v.scale ≡ u.scale → v ≡ u
same_view v u cx cy w h scale i = record {
  cx = cx i;
  cy = cy i;
  w = w i;
  h = h i;
  scale = scale i;
  world_x = is_prop→PathP (λ j. IsInWorld (cx j)) (λ j. hlevel props) v.world_x u.world_x i;
  world_y = is_prop→PathP (λ j. IsInWorld (cy j)) (λ j. hlevel props) v.world_y u.world_y i;
  some_w = is_prop→PathP (λ j. 2 ≤ w j) (λ j. hlevel props) v.some_w u.some_w i;
  some_h = is_prop→PathP (λ j. 2 ≤ h j) (λ j. hlevel props) v.some_h u.some_h i;
  low_w = is_prop→PathP (λ j. w j ≤ 4096) (λ j. hlevel props) v.low_w u.low_w i;
  low_h = is_prop→PathP (λ j. h j ≤ 4096) (λ j. hlevel props) v.low_h u.low_h i;
  even_w = is_prop→PathP (λ j. w j % 2 ≡ 0) (λ j. hlevel props) v.even_w u.even_w i;
  even_h = is_prop→PathP (λ j. h j % 2 ≡ 0) (λ j. hlevel props) v.even_h u.even_h i;
  above = is_prop→PathP (λ j. 0 < (scale j).num) (λ j. hlevel props) v.above u.above i;
  below = is_prop→PathP (λ j. (scale j).num < 2 ^ 28 * (scale j).den) (λ j. hlevel props) v.below u.below i;
}

-- five words write one view
pub one_view : (cx cy w h s : List ℕ) (v u : View) → WritesView cx cy w h s v → WritesView cx cy w h s u → v ≡ u
one_view cx cy w h s v u first second =
    same_view v u
    (one_whole (whole_number cx) v.cx u.cx first.cx_is.0 second.cx_is.0)
    (one_whole (whole_number cy) v.cy u.cy first.cy_is.0 second.cy_is.0)
    (one_side (whole_number w) v.w u.w first.w_is.0 second.w_is.0)
    (one_side (whole_number h) v.h u.h first.h_is.0 second.h_is.0)
    (equal_ratio v.scale u.scale (same_value (ratio_parts s) v.scale u.scale first.scale_is.reads second.scale_is.reads))
