-- Labels that lie too far apart do not block one another.
use Rattle.std.proofs.Common.{◌≡◌, ℕ, ◌+◌, ◌-◌, ◌*◌, ◌/◌, ◌<◌, ◌≤◌, List, [], ◌∷◌, ◌++◌, length, get_or, ◌⊎◌, inl, inr, sym, ap, subst, ◌∙◌, arith, length-append, Bool, true, false}
use Rattle.std.specs.Prelude.{MatchBool}
use Rattle.std.proofs.Math.Nat.{div-add-mod, mod-lt}
use Rattle.std.proofs.Math.ListN.{get_or-append}
use Rattle.std.proofs.lemmas.Bool.{cases_lt}
use Rattle.std.proofs.lemmas.Int.{ints}
use Rattle.std.proofs.lemmas.Nat.{mul-le}
use Rattle.std.proofs.lemmas.List.{get_or_default, get_or_push}
use Rattle.ml_ratio.specs.Fraction.{Fraction, value_of, IsLess, IsAtMost}
use Rattle.ml_ratio.proofs.lemmas.Fractions.{less_at_most}
use Rattle.ml_cone.specs.Near.{AreApart, AreNear}
use Rattle.ml_cone.specs.Overlap.{Overlap}
use Rattle.ml_cone.specs.declared.label.Label.{Label}
use Rattle.ml_conflict.specs.Reach.{Reaches}
use Rattle.ml_conflict.specs.declared.axis.Axis.{Axis}
use Rattle.ml_conflict.specs.declared.axis.Axis.TheVariants.{Across, Along}
use Rattle.ml_gaps.specs.Near.{IsNearOf, AreNears}
use Rattle.ml_gaps.specs.declared.gap.Gap.{Gap}
use Rattle.ml_gaps.specs.declared.near.Near.{Near}

-- a quotient rounded up
pub rounded_up : (n d : ℕ) → 0 < d → n ≤ ((n + (d - 1)) / d) * d
rounded_up n d some =
    let e = div-add-mod (n + (d - 1)) d in
    let r = mod-lt (n + (d - 1)) some in
    omega arith

-- a quotient rounded up is at most m where the numerator is at most m and the denominator above 0
pub rounded_low : (n d m : ℕ) → 0 < d → n ≤ m → (n + (d - 1)) / d ≤ m
rounded_low n d m some le =
    let q = (n + (d - 1)) / d in
    let e = div-add-mod (n + (d - 1)) d in
    let whole : m ≤ m * d = (let w = mul-le m 1 m d (omega arith) some in omega arith) in
    elim (cases_lt m q) [
      | inl more ↦ let p = mul-le (m + 1) d q d (omega arith) (omega arith) in absurd (omega arith)
      | inr less ↦ less
    ]

-- below the end of a range is below the whole number that it does not go beyond
below_last : (until s : Fraction) (last : ℕ) → until.num ≤ last * until.den → IsLess s until → s.num * 1 ≤ last * s.den
below_last until s last upto less =
    let whole : Fraction = record { num = last; den = 1; positive = omega arith } in
    let most : IsAtMost until whole = omega arith in
    let below : IsLess s whole = less_at_most s until whole less most in
    omega arith

-- labels that are apart up to the lesser of two such numbers do not overlap within both ranges
pub apart_within : (a b : Label) (u v : Fraction) (p q m : ℕ) → u.num ≤ p * u.den → v.num ≤ q * v.den →
    (m ≡ p) ⊎ (m ≡ q) → AreApart a b m 1 → (s : Fraction) → IsLess s u → IsLess s v → ¬ (Overlap a b s)
apart_within a b u v p q m one other (inl is) apart s first second over = apart s (subst (λ (k : ℕ). s.num * 1 ≤ k * s.den) (sym is) (below_last u s p one first)) over
apart_within a b u v p q m one other (inr is) apart s first second over = apart s (subst (λ (k : ℕ). s.num * 1 ≤ k * s.den) (sym is) (below_last v s q other second)) over

-- where the answer is yes, the labels are apart up to m
pub apart_of : (a b : Label) (m : ℕ) (is : Bool) → is ≡ true → MatchBool is (AreApart a b m 1) (AreNear a b m 1) → AreApart a b m 1
apart_of a b m true e h = h
apart_of a b m false e h = absurd (cc)

-- a label that reaches so many pixels reaches no more than a greater number
pub reaches_more : (axis : Axis) (a : Label) (r q : ℕ) → r ≤ q → Reaches axis a r → Reaches axis a q
reaches_more Across a r q le within k d lt = let (from, to) = within k d lt in (omega (arith, ints), omega (arith, ints))
reaches_more Along a r q le within k d lt = let (from, to) = within k d lt in (omega (arith, ints), omega (arith, ints))

-- labels that reach r pixels reach, up to a fraction, no further toward each other than up to a whole number above it
pub wide_enough : (r last : ℕ) (until : Fraction) → until.num ≤ last * until.den → 2 * r * until.num ≤ 2 * r * last * until.den
wide_enough r last until le = let m = mul-le (2 * r) until.num (2 * r) (last * until.den) (omega arith) le in omega arith

-- ---- one label more

-- before the first gap there is no site and no number
pub nears_none : (labels : List Label) (gaps : List Gap) (nears : List Near) → gaps ≡ [] → nears ≡ [] → AreNears labels gaps nears
nears_none labels gaps nears e f =
    let n = ap length e in
    record {
      one_each = ap length f ∙ sym n;
      own = λ k a g near lt. absurd (omega arith);
    }

module _ (labels : List Label) (gaps : List Gap) (nears : List Near) (i : ℕ) (a : Label) (gap : Gap) (near : Near)
    (one : length gaps ≡ i) (in' : i < length labels) (own : a ≡ get_or labels i a) (so_far : AreNears labels gaps nears) where
  -- what stands at i is the label
  its : (k : ℕ) (b : Label) → i ≡ k → a ≡ get_or labels k b
  its k b same = own ∙ (get_or_default labels i a b in' ∙ ap (λ (m : ℕ). get_or labels m b) same)

  own_more : IsNearOf a (value_of gap.until) near → (k : ℕ) (b : Label) (g : Gap) (f : Near) → k < length (gaps ++ gap ∷ []) →
      IsNearOf (get_or labels k b) (value_of (get_or (gaps ++ gap ∷ []) k g).until) (get_or (nears ++ near ∷ []) k f)
  own_more is k b g f lt =
      let n = so_far.one_each in
      let m = length-append gaps (gap ∷ []) in
      elim (cases_lt k i) [
        | inl less ↦ rw (get_or-append gaps (gap ∷ []) g k (omega arith), get_or-append nears (near ∷ []) f k (omega arith)) (so_far.own k b g f (omega arith))
        | inr more ↦
            let same : i ≡ k = omega arith in
            rw (get_or_push gaps gap g k (omega arith), get_or_push nears near f k (omega arith)) (subst (λ (c : Label). IsNearOf c (value_of gap.until) near) (its k b same) is)
      ]

  -- with the next gap come its label's site and a number that is at least its end
  pub nears_more : IsNearOf a (value_of gap.until) near → AreNears labels (gaps ++ gap ∷ []) (nears ++ near ∷ [])
  nears_more is =
      let n = so_far.one_each in
      let m = length-append gaps (gap ∷ []) in
      record {
        one_each = length-append nears (near ∷ []) ∙ omega arith;
        own = own_more is;
      }
