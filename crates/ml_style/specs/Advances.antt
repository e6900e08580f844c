-- How far characters move the pen, in order of the characters.
use Rattle.std.specs.Prelude.{List, map}
use Rattle.std.specs.Ordering.{nat_cmp}
use Rattle.std.specs.List.Sorted.{IsStrictlySortedBy, IsStrictlySortedBy-prop}
use Rattle.ml_style.specs.declared.advance.Advance.{Advance}

-- advances in order of their characters, each character once
abbrev pub AreAscending : List Advance → Type 0
AreAscending advances = IsStrictlySortedBy nat_cmp (map (λ a. a.ch) advances)

-- it holds in at most one way
pub AreAscending-prop : (advances : List Advance) → IsProp (AreAscending advances)
AreAscending-prop advances = IsStrictlySortedBy-prop nat_cmp (map (λ a. a.ch) advances)
