-- The search over strips, to the west and to the east of a label, and over the spots of a strip, to its south and to its north.
use Rattle.std.proofs.Common.{◌≡◌, ℕ, ◌+◌, ◌<◌, ◌≤◌, List, [], length, get_or, inl, inr, subst, arith}
use Rattle.std.specs.List.Sorted.{IsPermutation, IsSorted}
use Rattle.std.specs.Ordering.{nat_cmp}
use Rattle.std.proofs.lemmas.Bool.{cases_lt}
use Rattle.std.proofs.lemmas.List.Elements.{All-nil}
use Rattle.std.proofs.lemmas.List.Sorted.{All-permutation, Contains-permutation, IsNonDecreasingBy-from_sort}
use Rattle.ml_ratio.specs.Fraction.{Fraction, value_of, IsAtMost}
use Rattle.ml_ratio.specs.declared.ratio.Ratio.{Ratio}
use Rattle.ml_cone.specs.Slots.{Rival, no_slot}
use Rattle.ml_cone.specs.declared.label.Label.{Label}
use Rattle.ml_cone.specs.declared.slot.Slot.{Slot}
use Rattle.ml_conflict.specs.Area.{IsInArea}
use Rattle.ml_conflict.specs.Begin.{SetsNoneUpTo}
use Rattle.ml_conflict.specs.Enough.{AreEnough}
use Rattle.ml_conflict.specs.Field.{HasSpot, IsBeyond, SeesSpot}
use Rattle.ml_conflict.specs.Strip.{IsStripOf, SeesStrip, AreAway}
use Rattle.ml_conflict.specs.declared.area.Area.{Area}
use Rattle.ml_conflict.specs.declared.spot.Spot.{Spot}
use Rattle.ml_conflict.specs.declared.strip.Strip.{Strip}
use Rattle.ml_conflict.proofs.lemmas.Strips as strips
use Rattle.ml_pass.specs.Search.{rivals_in, IsSearched, AreHeld}
use Rattle.ml_pass.proofs.Searching.{searched_none, searched_more, searched_all}

module _ (labels : List Label) (slots : List Slot) (low : Label) (spots : List Spot) (area : Area) (strip : IsStripOf labels spots area) where
  -- ---- one spot more, and no more

  module _ (at start : ℕ) (spot : Spot) (at_in : at < length spots) (its : spot ≡ get_or spots at spot) (bound : Fraction) (before during : List ℕ) where
    -- once the next spot to the south is looked at, the search has seen one spot more
    pub south_more : (left : ℕ) (mid next : Fraction) (after : List ℕ) → left ≡ at + 1 →
        IsSearched low (rivals_in labels slots low) (length slots) (SeesSpot spots left start) bound mid before during →
        IsSearched low (rivals_in labels slots low) (length slots) (λ j. j ≡ spot.place) mid next during after →
        IsSearched low (rivals_in labels slots low) (length slots) (SeesSpot spots at start) bound next before after
    south_more left mid next after e one two =
        searched_more low (rivals_in labels slots low) (length slots) (SeesSpot spots left start) (λ j. j ≡ spot.place) (SeesSpot spots at start) bound mid next before during after one two
        (strips.south_more labels low spots area strip at start spot at_in its left e)

    -- once the next spot to the north is looked at, the search has seen one spot more
    pub north_more : (mid next : Fraction) (after : List ℕ) → IsSearched low (rivals_in labels slots low) (length slots) (SeesSpot spots start at) bound mid before during →
        IsSearched low (rivals_in labels slots low) (length slots) (λ j. j ≡ spot.place) mid next during after →
        IsSearched low (rivals_in labels slots low) (length slots) (SeesSpot spots start (at + 1)) bound next before after
    north_more mid next after one two =
        searched_more low (rivals_in labels slots low) (length slots) (SeesSpot spots start at) (λ j. j ≡ spot.place) (SeesSpot spots start (at + 1)) bound mid next before during after one two
        (strips.north_more labels low spots area strip at start spot at_in its)

    module _ (own : Area) (in' : IsInArea low own) (next : Ratio) where
      -- where the next spot to the south lies too far away, it and all further south count as seen
      pub south_far : (left : ℕ) → left ≡ at + 1 → start ≤ length spots → IsBeyond low.y spot.y (own.along.reach + area.along.reach) next →
          IsSearched low (rivals_in labels slots low) (length slots) (SeesSpot spots left start) bound (value_of next) before during →
          IsSearched low (rivals_in labels slots low) (length slots) (SeesSpot spots 0 start) bound (value_of next) before during
      south_far left e start_in beyond one =
          searched_all low (rivals_in labels slots low) (length slots) (SeesSpot spots left start) (SeesSpot spots 0 start) bound (value_of next) before during one
          (λ j saw lt. strips.south_far labels low spots area strip at start spot at_in its own.along in'.along next (λ m. value_of (get_or slots m no_slot).until) left e start_in beyond j saw)

      -- where the next spot to the north lies too far away, it and all further north count as seen
      pub north_far : IsBeyond spot.y low.y (own.along.reach + area.along.reach) next →
          IsSearched low (rivals_in labels slots low) (length slots) (SeesSpot spots start at) bound (value_of next) before during →
          IsSearched low (rivals_in labels slots low) (length slots) (SeesSpot spots start (length spots)) bound (value_of next) before during
      north_far beyond one =
          searched_all low (rivals_in labels slots low) (length slots) (SeesSpot spots start at) (SeesSpot spots start (length spots)) bound (value_of next) before during one
          (λ j saw lt. strips.north_far labels low spots area strip at start spot at_in its own.along in'.along next (λ m. value_of (get_or slots m no_slot).until) beyond j saw)

  -- no spot is left on either side
  pub crossed : (left right : ℕ) (bound next : Fraction) (before after : List ℕ) → left ≡ 0 → length spots ≤ right →
      IsSearched low (rivals_in labels slots low) (length slots) (SeesSpot spots left right) bound next before after →
      IsSearched low (rivals_in labels slots low) (length slots) (HasSpot spots) bound next before after
  crossed left right bound next before after none all one =
      searched_all low (rivals_in labels slots low) (length slots) (SeesSpot spots left right) (HasSpot spots) bound next before after one
      (λ j has lt. let saw = strips.sees_whole spots j has in inl (saw.0, omega arith, omega (arith, saw.2), saw.3))

  -- all of the strip is too far away
  pub passed_over : (bound : Fraction) (places : List ℕ) → ((high : Label) (u : Fraction) → IsInArea high area → SetsNoneUpTo low high u bound) →
      IsSearched low (rivals_in labels slots low) (length slots) (HasSpot spots) bound bound places places
  passed_over bound places none =
      searched_none low (rivals_in labels slots low) (length slots) (HasSpot spots) bound places
      (λ j has lt. strips.none_away labels low spots area strip (λ m. value_of (get_or slots m no_slot).until) bound none j has)

-- ---- by turns

module _ (low : Label) (rivals : ℕ → Rival) (n : ℕ) (P : ℕ → ℕ → Type 0) where
  -- what was seen from one place until another
  abbrev pub Saw : ℕ → ℕ → ℕ → Type 0
  Saw from until j = (k : ℕ) × (from ≤ k) × (k < until) × P k j

  -- between a place and itself nothing is seen, so nothing is found and the bound stays
  pub saw_none : (at : ℕ) (bound : Fraction) (places : List ℕ) → IsSearched low rivals n (Saw at at) bound bound places places
  saw_none at bound places = searched_none low rivals n (Saw at at) bound places (λ j saw lt. absurd (omega (arith, saw.1, saw.2)))

  -- one place alone was seen
  pub saw_one : (at until : ℕ) (bound next : Fraction) (before after : List ℕ) → until ≡ at + 1 → (seen : ℕ → Type 0) → ((j : ℕ) → P at j → seen j) →
      IsSearched low rivals n seen bound next before after → IsSearched low rivals n (Saw at until) bound next before after
  saw_one at until bound next before after e seen here one =
      searched_all low rivals n seen (Saw at until) bound next before after one
      (λ j saw lt. let same : saw.0 ≡ at = omega (arith, saw.1, saw.2) in inl (here j (subst (λ (k : ℕ). P k j) same saw.3)))

  -- some places more were seen on the one side
  pub turn_left : (further left right : ℕ) (bound mid next : Fraction) (before during after : List ℕ) → IsSearched low rivals n (Saw left right) bound mid before during →
      IsSearched low rivals n (Saw further left) mid next during after → IsSearched low rivals n (Saw further right) bound next before after
  turn_left further left right bound mid next before during after one two =
      searched_more low rivals n (Saw left right) (Saw further left) (Saw further right) bound mid next before during after one two
      (λ j saw. elim (cases_lt saw.0 left) [
        | inl less ↦ inr (saw.0, saw.1, less, saw.3)
        | inr more ↦ inl (saw.0, more, saw.2, saw.3)
      ])

  -- some more on the other
  pub turn_right : (left right further : ℕ) (bound mid next : Fraction) (before during after : List ℕ) → IsSearched low rivals n (Saw left right) bound mid before during →
      IsSearched low rivals n (Saw right further) mid next during after → IsSearched low rivals n (Saw left further) bound next before after
  turn_right left right further bound mid next before during after one two =
      searched_more low rivals n (Saw left right) (Saw right further) (Saw left further) bound mid next before during after one two
      (λ j saw. elim (cases_lt saw.0 right) [
        | inl less ↦ inl (saw.0, saw.1, less, saw.3)
        | inr more ↦ inr (saw.0, more, saw.2, saw.3)
      ])

-- a spot's place, and the labels in a strip, as what stands at a place of a list
abbrev pub StandsAt : List Spot → ℕ → ℕ → Type 0
StandsAt spots k j = (d : Spot) → (get_or spots k d).place ≡ j

-- the label at j has its spot in the strip at place k
abbrev pub LiesAt : List Strip → ℕ → ℕ → Type 0
LiesAt strips k j = (d : Strip) → HasSpot (get_or strips k d).spots.items j

-- a label whose range is empty sets no limit
abbrev pub IdleLaw : Type 0
IdleLaw = (low high : Label) (u bound : Fraction) → IsAtMost u (value_of high.min) → SetsNoneUpTo low high u bound

-- strips that are too far away count as seen
pub passed_strips : (labels : List Label) (slots : List Slot) (low : Label) (held : List Strip) (from until : ℕ) (area : Area) (bound : Fraction) (places : List ℕ) →
    IsInArea low area → AreAway labels held from until area bound → IsSearched low (rivals_in labels slots low) (length slots) (SeesStrip held from until) bound bound places places
passed_strips labels slots low held from until area bound places in' away =
    searched_none low (rivals_in labels slots low) (length slots) (SeesStrip held from until) bound places
    (λ j saw lt. away low j (value_of (get_or slots j no_slot).until) in' saw)

-- no strip is left on either side
pub gathered : IdleLaw → (labels : List Label) (slots : List Slot) (low : Label) (held : List Strip) → AreHeld labels slots held →
    (left right : ℕ) (bound next : Fraction) (before after : List ℕ) → left ≡ 0 → length held ≤ right →
    IsSearched low (rivals_in labels slots low) (length slots) (SeesStrip held left right) bound next before after →
    IsSearched low (rivals_in labels slots low) (length slots) (λ j. j < length slots) bound next before after
gathered idle_law labels slots low held are left right bound next before after none all one =
    searched_all low (rivals_in labels slots low) (length slots) (SeesStrip held left right) (λ j. j < length slots) bound next before after one
    (λ j _ lt. elim (are j lt) [
      | inl there ↦ inl (there.0, omega arith, omega (arith, there.2), there.3)
      | inr idle ↦ inr (idle_law low (get_or labels j low) (value_of (get_or slots j no_slot).until) next (idle low))
    ])

-- what was found is enough
pub enough_of : (low : Label) (rivals : ℕ → Rival) (n : ℕ) (bound : Fraction) (places sorted : List ℕ) →
    IsSearched low rivals n (λ j. j < n) (value_of low.max) bound [] places → IsPermutation places sorted → IsSorted nat_cmp sorted → AreEnough low rivals n bound sorted
enough_of low rivals n bound places sorted searched same up = record {
  ascending = IsNonDecreasingBy-from_sort (λ (x : ℕ). x) sorted up;
  within = All-permutation (λ j. j < n) places sorted same (searched.within (All-nil (λ j. j < n)));
  low_bound = searched.less;
  leave = λ e e_end all. searched.leave e e_end (λ j there. all j (Contains-permutation places sorted j same there)) e_end.1;
  others = λ j lt. elim (searched.others j lt lt) [
    | inl there ↦ inl (Contains-permutation places sorted j same there)
    | inr none ↦ inr none
  ];
}
