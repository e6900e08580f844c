-- What stays say of views.
use Rattle.std.proofs.Common.{◌≡◌, ℕ, zero, suc, ◌+◌, ◌<◌, ◌≤◌, ◌↔◌, List, [], ◌∷◌, length, get_or, arith, sym, ◌∙◌, subst, false, ◌⊎◌, inl, inr}
use Rattle.std.specs.Prelude.{Contains}
use Rattle.std.proofs.lemmas.Bool.{cases_lt}
use Rattle.std.proofs.lemmas.List.{get_or_default}
use Rattle.ml_ratio.specs.Fraction.{Fraction, value_of}
use Rattle.ml_ratio.proofs.lemmas.Lists.{pick}
use Rattle.ml_cone.specs.Shown.{IsShown, AreShown}
use Rattle.ml_cone.specs.Slots.{ends, no_slot}
use Rattle.ml_cone.specs.declared.label.Label.{Label}
use Rattle.ml_cone.specs.declared.slot.Slot.{Slot}
use Rattle.ml_cone.specs.declared.view.View.{View}
use Rattle.ml_flight.specs.Peak.{HasCount, none, counted, passed, IsMost}
use Rattle.ml_flight.specs.Stay.{HoldsScale, HaveScale}
use Rattle.ml_flight.specs.Timelines.{span_of, AreTimelines}
use Rattle.ml_flight.specs.Window.{IsViewThrough}
use Rattle.ml_flight.specs.declared.stay.Stay.{Stay}
use Rattle.ml_flight.specs.declared.window.Window.{Window}
use Rattle.ml_ratio.proofs.lemmas.Anys.{any_none, any_here, any_there, any_cases}
use Rattle.ml_flight.proofs.Counting.{true_or_false}
use Rattle.ml_flight.proofs.Opens.{is_open, is_open_holds, is_open_test}
use Rattle.ml_flight.proofs.Viewing.{shown_by_view}

-- whether a stay, and one of several, holds a fraction is decided
holds_or_not : (stay : Stay) (s : Fraction) → HoldsScale stay s ⊎ ¬ (HoldsScale stay s)
holds_or_not stay s =
    elim (true_or_false (is_open s false stay)) [
      | inl yes' ↦ inl (is_open_holds s false stay yes')
      | inr no' ↦ inr (λ h. let e = is_open_test s false stay h in absurd (cc))
    ]

held_or_not : (s : Fraction) (stays : List Stay) → HaveScale stays s ⊎ ¬ (HaveScale stays s)
held_or_not s [] = inr (any_none (λ a. HoldsScale a s))
held_or_not s (x ∷ xs) =
    elim (holds_or_not x s) [
      | inl here ↦ inl (any_here (λ a. HoldsScale a s) x xs here)
      | inr not_here ↦ elim (held_or_not s xs) [
        | inl there ↦ inl (any_there (λ a. HoldsScale a s) x xs there)
        | inr not_there ↦ inr (λ any. elim (any_cases (λ a. HoldsScale a s) x xs any) [ inl h ↦ not_here h | inr h ↦ not_there h ])
      ]
    ]

-- so there is a number of lists that hold it
some_count : {X : Type 0} (P : X → Type 0) → ((x : X) → P x ⊎ ¬ (P x)) → (xs : List X) → (n : ℕ) × HasCount P xs n
some_count P decide [] = (0, none)
some_count P decide (x ∷ xs) =
    let rest = some_count P decide xs in
    elim (decide x) [
      | inl holds ↦ (suc rest.0, counted holds rest.1)
      | inr fails ↦ (rest.0, passed fails rest.1)
    ]

-- the place q counts from `base` on, and the element there has the property
Held : {X : Type 0} → (X → Type 0) → List X → ℕ → ℕ → Type 0
Held {X} P xs base q = (j : ℕ) × (x : X) × (j < length xs) × (get_or xs j x ≡ x) × P x × (q ≡ base + j)

Ascending : List ℕ → Type 0
Ascending places = (k m : ℕ) → k < m → m < length places → get_or places k 0 < get_or places m 0

after : (base q : ℕ) (qs : List ℕ) → Ascending (q ∷ qs) → base < q → (k : ℕ) → k < length (q ∷ qs) → base < get_or (q ∷ qs) k 0
unfolding Ascending
after base q qs up more zero lt = more
after base q qs up more (suc k) lt = (let h = up 0 (suc k) (omega arith) lt in omega arith)

held_later : {X : Type 0} (P : X → Type 0) (x : X) (xs : List X) (base q : ℕ) → base < q → Held P (x ∷ xs) base q → Held P xs (suc base) q
unfolding Held
held_later P x xs base q more (zero, y, lt, e, p, at) = absurd (omega arith)
held_later P x xs base q more (suc j, y, lt, e, p, at) = (j, y, omega arith, e, p, omega arith)

held_here : {X : Type 0} (P : X → Type 0) (x : X) (xs : List X) (base q : ℕ) → q ≤ base → Held P (x ∷ xs) base q → P x × (q ≡ base)
unfolding Held
held_here P x xs base q low (zero, y, lt, e, p, at) = (subst P (sym e) p, omega arith)
held_here P x xs base q low (suc j, y, lt, e, p, at) = absurd (omega arith)

-- ascending places of elements with the property are no more than there are such elements
places_low : {X : Type 0} (P : X → Type 0) (xs : List X) (n : ℕ) → HasCount P xs n → (base : ℕ) (places : List ℕ) →
    Ascending places → ((k : ℕ) → k < length places → Held P xs base (get_or places k 0)) → length places ≤ n
unfolding Held Ascending
places_low P xs n count base [] up held = omega arith
places_low P [] n none base (q ∷ qs) up held = absurd (let h = held 0 (omega arith) in let lt = h.2 in omega arith)
places_low P (x ∷ xs) (suc n) (counted p rest) base (q ∷ qs) up held =
    elim (cases_lt base q) [
      | inl more ↦
          let low = places_low P xs n rest (suc base) (q ∷ qs) up (λ k lt. held_later P x xs base (get_or (q ∷ qs) k 0) (after base q qs up more k lt) (held k lt)) in
          omega arith
      | inr least ↦
          let here = held_here P x xs base q least (held 0 (omega arith)) in
          let at = here.1 in
          let low = places_low P xs n rest (suc base) qs (λ k m less lt. up (suc k) (suc m) (omega arith) (omega arith))
          (λ k lt. held_later P x xs base (get_or qs k 0) (let h = up 0 (suc k) (omega arith) (omega arith) in omega arith) (held (suc k) (omega arith))) in
          omega arith
    ]
places_low P (x ∷ xs) n (passed q' rest) base (q ∷ qs) up held =
    elim (cases_lt base q) [
      | inl more ↦ places_low P xs n rest (suc base) (q ∷ qs) up (λ k lt. held_later P x xs base (get_or (q ∷ qs) k 0) (after base q qs up more k lt) (held k lt))
      | inr least ↦ absurd (q' (held_here P x xs base q least (held 0 (omega arith))).0)
    ]

module _ (labels : List Label) (slots : List Slot) (at : Window) (all : List (List Stay)) (view : View) (places : List ℕ)
    (lines : AreTimelines labels slots at all) (same : IsViewThrough at view) (shown : AreShown labels (ends slots) view places) where
  shown_held : (i : ℕ) → IsShown labels (ends slots) view i → HaveScale (get_or all i []) (value_of view.scale)
  shown_held i (lt, is) =
      let d : Label = pick labels i lt in
      let a : Label = get_or labels i d in
      let span = span_of a (get_or slots i no_slot) in
      (lines.stays i d lt).complete (value_of view.scale) ((shown_by_view a span at view same).0 (is d))

  held_shown : (i : ℕ) → i < length labels → HaveScale (get_or all i []) (value_of view.scale) → IsShown labels (ends slots) view i
  held_shown i lt (k, stay, lt', e, held) = (
    lt,
    λ d.
        let a : Label = get_or labels i d in
        let span = span_of a (get_or slots i no_slot) in
        let within : HoldsScale (get_or (get_or all i []) k stay) (value_of view.scale) = subst (λ (b : Stay). HoldsScale b (value_of view.scale)) (sym e) held in
        (shown_by_view a span at view same).1 (((lines.stays i d lt).maximal k stay lt').within (value_of view.scale) within),
  )

  -- a view through the window shows exactly the labels of which a stay holds its scale
  pub stays_tell : (i : ℕ) → i < length labels → Contains places i ↔ HaveScale (get_or all i []) (value_of view.scale)
  stays_tell i lt = (
    λ (k, lt', e).
        let at' : get_or places k 0 ≡ i = get_or_default places k 0 i lt' ∙ e in
        shown_held i (subst (λ (j : ℕ). IsShown labels (ends slots) view j) at' (shown.sound k lt')),
    λ held.
        let found = shown.whole i (held_shown i lt held) in
        (found.0, found.1, get_or_default places found.0 i 0 found.1 ∙ found.2),
  )

  -- no view through the window shows more labels than the most that have a stay at one scale
  pub no_more : (most : ℕ) → IsMost all most → length places ≤ most
  unfolding Held Ascending
  no_more most is_most =
      let s = value_of view.scale in
      let count = some_count (λ (stays : List Stay). HaveScale stays s) (held_or_not s) all in
      let low = places_low (λ (stays : List Stay). HaveScale stays s) all count.0 count.1 0 places shown.ascending
      (λ k lt.
      let i = get_or places k 0 in
      let is = shown.sound k lt in
      let e : List Stay = get_or all i [] in
      (i, e, (let in' = is.0 in omega (arith, lines.one_each)), get_or_default all i e [] (let in' = is.0 in omega (arith, lines.one_each)), shown_held i is, omega arith)) in
      omega (arith, is_most s count.0 count.1)
