use Rattle.std.specs.Prelude.{◌↔◌, ◌⊎◌, IsTrue, All, AllPairs, List}
use Rattle.ml_ratio.specs.Fraction.{Fraction, value_of, IsAtMost}
use Rattle.ml_flight.specs.Stay.{HoldsScale, HaveScale}
use Rattle.ml_flight.specs.declared.stay.Stay.{Stay}

-- r lies between s and t, either of which may be the greater, both counted in
abbrev pub IsBetween : Fraction → Fraction → Fraction → Type 0
IsBetween s t r = (IsAtMost s r × IsAtMost r t) ⊎ (IsAtMost t r × IsAtMost r s)

-- the stay is a maximal interval of a set of fractions: all of it lies in the set, and all that joins it within the set belongs to it
pub record IsMaximal (S : Fraction → Type 0) (stay : Stay) : Type 0 where
  pub within : (s : Fraction) → HoldsScale stay s → S s
  pub whole : (s t : Fraction) → HoldsScale stay t → ((r : Fraction) → IsBetween s t r → S r) → HoldsScale stay s
  pub from_in : IsTrue stay.from_in ↔ S (value_of stay.from)

-- the stays are the maximal intervals of a set of fractions, all of them, ascending
pub record AreMaximal (S : Fraction → Type 0) (stays : List Stay) : Type 0 where
  pub ascending : AllPairs (λ a b. IsAtMost (value_of a.to) (value_of b.from)) stays
  pub maximal : All (IsMaximal S) stays
  pub complete : (s : Fraction) → S s → HaveScale stays s
