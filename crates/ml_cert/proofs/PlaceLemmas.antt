-- The map from ids to places, one label more at a time.
use Rattle.std.proofs.Common.{◌≡◌, ℕ, ◌+◌, ◌<◌, List, length, get_or, arith, Option, Some, None, Bool, true, false, cond, inl, inr, ◌∙◌, sym, refl}
use Rattle.std.specs.Prelude.{MatchOption}
use Rattle.std.specs.Str.{bytes_eq}
use Rattle.std.specs.BTreeMap.{BTreeMap}
use Rattle.std.proofs.lemmas.Bool.{cases_lt, false≢true}
use Rattle.std.proofs.lemmas.Slice.Eq.{bytes_eq-Decides}
use denote.Ref.{Bor}
use Rattle.ml_cone.specs.declared.label.Label.{Label}
use Rattle.ml_cone.specs.Places.{FindsPlaces, find_place}

-- the id is that of the label at j, which is one of the first n
abbrev IsPlaceBefore : List Label → ℕ → List ℕ → ℕ → Type 0
IsPlaceBefore labels n id j = (j < n) × ((d : Label) → (get_or labels j d).order.id ≡ id)

-- the map finds the places of the first n labels, and nothing else
abbrev pub FindsBefore : List Label → BTreeMap (Bor (List ℕ)) ℕ → ℕ → Type 0
FindsBefore labels places n = (id : List ℕ) → MatchOption (find_place places id) ((j : ℕ) → ¬ (IsPlaceBefore labels n id j)) (IsPlaceBefore labels n id)

-- a map that finds the places of all labels up to the last finds them all
pub before_all : (labels : List Label) (places : BTreeMap (Bor (List ℕ)) ℕ) → FindsBefore labels places (length labels) → FindsPlaces labels places
before_all labels places h = h

-- a map in which no id is found finds the places of no labels
pub before_none : (labels : List Label) (places : BTreeMap (Bor (List ℕ)) ℕ) → ((id : List ℕ) → find_place places id ≡ None) → FindsBefore labels places 0
before_none labels places h id = rw (h id) (λ j k. absurd (let p = k.0 in omega arith))

module _ (labels : List Label) (n : ℕ) (own : List ℕ) (a : Label) (its_id : (d : Label) → (get_or labels n d).order.id ≡ own) where
  more_here : (id : List ℕ) → own ≡ id → IsPlaceBefore labels (n + 1) id n
  more_here id e = (omega arith, λ d. its_id d ∙ e)

  more_other : (id : List ℕ) → ¬ (own ≡ id) → (found : Option ℕ) → MatchOption found ((j : ℕ) → ¬ (IsPlaceBefore labels n id j)) (IsPlaceBefore labels n id) →
      MatchOption found ((j : ℕ) → ¬ (IsPlaceBefore labels (n + 1) id j)) (IsPlaceBefore labels (n + 1) id)
  more_other id differ None h =
      λ j k. elim (cases_lt j n) [ inl less ↦ h j (less, k.1) | inr more ↦ let p = k.0 in let same : j ≡ n = omega arith in differ (sym (its_id a) ∙ (rw same at (k.1 a))) ]
  more_other id differ (Some j) h = let p = h.0 in (omega arith, h.1)

  by_test : (b : Bool) (id : List ℕ) → bytes_eq own id ≡ b → (found : Option ℕ) → MatchOption found ((j : ℕ) → ¬ (IsPlaceBefore labels n id j)) (IsPlaceBefore labels n id) →
      MatchOption (cond b (Some n) found) ((j : ℕ) → ¬ (IsPlaceBefore labels (n + 1) id j)) (IsPlaceBefore labels (n + 1) id)
  by_test true id e found h = more_here id ((bytes_eq-Decides own id).0 e)
  by_test false id e found h = more_other id (λ same. absurd (false≢true (sym e ∙ (bytes_eq-Decides own id).1 same))) found h

  -- one label more
  pub before_more : (old new : BTreeMap (Bor (List ℕ)) ℕ) → ((id : List ℕ) → find_place new id ≡ cond (bytes_eq own id) (Some n) (find_place old id)) →
      FindsBefore labels old n → FindsBefore labels new (n + 1)
  before_more old new updates before id = rw (updates id) (by_test (bytes_eq own id) id refl (find_place old id) (before id))
