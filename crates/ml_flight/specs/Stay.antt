use Rattle.std.specs.Prelude.{not, MatchBool, Any, AllPairs, List, Option, Some, None}
use Rattle.ml_ratio.specs.Fraction.{Fraction, value_of, IsLess, IsAtMost}
use Rattle.ml_flight.specs.declared.place.Place.{Place}
use Rattle.ml_flight.specs.declared.stay.Stay.{Stay}

-- the stay has begun at s: s lies above its lower end, or is that end where it is counted in
abbrev pub HasBegun : Stay → Fraction → Type 0
HasBegun stay s = MatchBool stay.from_in (IsAtMost (value_of stay.from) s) (IsLess (value_of stay.from) s)

-- the stay holds s: it has begun there, and s lies below its upper end
abbrev pub HoldsScale : Stay → Fraction → Type 0
HoldsScale stay s = HasBegun stay s × IsLess s (value_of stay.to)

-- the stay holds s, if there is one
abbrev pub HoldsIfSome : Option Stay → Fraction → Type 0
HoldsIfSome None s = ⊥
HoldsIfSome (Some stay) s = HoldsScale stay s

-- one of the stays holds s
abbrev pub HaveScale : List Stay → Fraction → Type 0
HaveScale stays s = Any (λ stay. HoldsScale stay s) stays

-- the second stay begins after the end of the first, and they do not join: that end is not counted in
abbrev pub IsApart : Stay → Stay → Type 0
IsApart a b = MatchBool b.from_in (IsLess (value_of a.to) (value_of b.from)) (IsAtMost (value_of a.to) (value_of b.from))

-- the stays ascend, and no two of them join
abbrev pub AreApart : List Stay → Type 0
AreApart stays = AllPairs IsApart stays

-- the first stay begins no later than the second: it has begun wherever that has
abbrev pub BeginsBy : Stay → Stay → Type 0
BeginsBy a b = (s : Fraction) → HasBegun b s → HasBegun a s

-- the place where a stay begins
abbrev pub begin_of : Stay → Place
begin_of stay = record { mark = stay.from; after = not stay.from_in }
