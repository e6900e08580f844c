use Rattle.std.specs.Prelude.{ℕ, ◌≡◌, ◌<◌, ◌≤◌, ◌⊎◌, Bool, true, false, MatchBool, Any, List, [], ◌∷◌}
use Prim.Native.Nat.{suc}
use Rattle.ml_ratio.specs.Fraction.{Fraction, value_of, IsLess, IsSame, IsScale}
use Rattle.ml_flight.specs.Stay.{HaveScale}
use Rattle.ml_flight.specs.declared.place.Peak.{Peak}
use Rattle.ml_flight.specs.declared.stay.Stay.{Stay}

-- n of the elements have the property
pub data HasCount {X : Type 0} (P : X → Type 0) : List X → ℕ → Type 0 where
  none : HasCount P [] 0
  counted : {x : X} {xs : List X} {n : ℕ} → P x → HasCount P xs n → HasCount P (x ∷ xs) (suc n)
  passed : {x : X} {xs : List X} {n : ℕ} → ¬ (P x) → HasCount P xs n → HasCount P (x ∷ xs) n

-- the fraction is an end of the stay
abbrev pub IsEndOf : Fraction → Stay → Type 0
IsEndOf m stay = IsSame m (value_of stay.from) ⊎ IsSame m (value_of stay.to)

-- a mark: 0, or an end of some stay
abbrev pub IsMark : List (List Stay) → Fraction → Type 0
IsMark all m = (m.num ≡ 0) ⊎ Any (λ stays. Any (IsEndOf m) stays) all

-- s lies just after m: above it, and below every greater mark
abbrev pub IsJustAfter : List (List Stay) → Fraction → Fraction → Type 0
IsJustAfter all m s = IsLess m s × ((t : Fraction) → IsMark all t → IsLess m t → IsLess s t)

-- a place: just after a mark, or at a mark above 0
abbrev pub IsPlace : List (List Stay) → Fraction → Bool → Type 0
IsPlace all m after = IsMark all m × MatchBool after (Unit {0}) (IsScale m)

-- the number of labels shown at a place: at the mark, or at every scale just after it; there is none after the last mark
abbrev pub IsCount : List (List Stay) → Fraction → Bool → ℕ → Type 0
IsCount all m true n = HasCount (λ stays. (s : Fraction) → IsJustAfter all m s → HaveScale stays s) all n
IsCount all m false n = HasCount (λ stays. HaveScale stays m) all n

-- the one place comes before the other: its mark is less, or it is the mark and the other lies just after it
abbrev pub ComesBefore : Fraction → Bool → Fraction → Bool → Type 0
ComesBefore m after t later = IsLess m t ⊎ (IsSame m t × (after ≡ false) × (later ≡ true))

-- at no scale are more labels shown
abbrev pub IsMost : List (List Stay) → ℕ → Type 0
IsMost all most = (s : Fraction) (n : ℕ) → HasCount (λ stays. HaveScale stays s) all n → n ≤ most

-- the greatest number of labels shown at a place, and the first place that has it
pub record IsPeak (all : List (List Stay)) (peak : Peak) : Type 0 where
  pub place : IsPlace all (value_of peak.mark) peak.after
  pub count : IsCount all (value_of peak.mark) peak.after peak.count
  pub greatest : (m : Fraction) (after : Bool) (n : ℕ) → IsPlace all m after → IsCount all m after n → n ≤ peak.count
  pub first : (m : Fraction) (after : Bool) (n : ℕ) → IsPlace all m after → IsCount all m after n →
      ComesBefore m after (value_of peak.mark) peak.after → n < peak.count
