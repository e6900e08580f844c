-- The steps of the pass: each label in turn gets its own slot among the labels before it.
use Rattle.std.proofs.Common.{◌≡◌, ℕ, ◌+◌, ◌<◌, List, [], ◌∷◌, ◌++◌, length, get_or, arith, ap, ◌∙◌, sym, subst, inl, inr, ◌⊎◌, length-append}
use Rattle.std.proofs.lemmas.Bool.{cases_lt}
use Rattle.std.proofs.lemmas.List.{get_or_default, get_or_push}
use Rattle.std.proofs.Math.ListN.{get_or-append}
use Rattle.ml_ratio.specs.Fraction.{value_of, IsAtMost}
use Rattle.ml_cone.specs.Slots.{Rival, IsOwnSlot, HaveOwnSlots, row, no_slot}
use Rattle.ml_cone.specs.declared.label.Label.{Label}
use Rattle.ml_cone.specs.declared.slot.Slot.{Slot}
use Rattle.ml_conflict.specs.Strip.{HasPlace}
use Rattle.ml_conflict.specs.declared.strip.Strip.{Strip}
use Rattle.ml_pass.specs.Search.{rivals_in, IsIdle, AreHeld}

-- the first i labels have their own slots
pub record Assigned (labels : List Label) (i : ℕ) (slots : List Slot) : Type 0 where
  pub one_each : length slots ≡ i
  pub own : (d : Label) (k : ℕ) → k < i → IsOwnSlot (row (λ j. j) labels slots d) (λ j. j < k) (get_or labels k d) (get_or slots k no_slot)

-- before the first label there is no slot
pub assigned_none : (labels : List Label) (slots : List Slot) → slots ≡ [] → Assigned labels 0 slots
assigned_none labels slots empty = record { one_each = ap length empty; own = λ d k h. absurd (omega arith) }

-- a label has the same slot among the same rivals at the same places
abbrev pub LikeRivals : Type 0
LikeRivals = (low : Label) (rivals others : ℕ → Rival) (n : ℕ) → ((j : ℕ) → j < n → rivals j ≡ others j) →
    (slot : Slot) → IsOwnSlot rivals (λ j. j < n) low slot → IsOwnSlot others (λ j. j < n) low slot

-- with the next label's own slot behind the others, the labels up to it have their own slots
pub assigned_more : LikeRivals → (labels : List Label) (i : ℕ) (slots : List Slot) (s : Slot) (b : Label) → i < length labels → b ≡ get_or labels i b →
    Assigned labels i slots → IsOwnSlot (rivals_in labels slots b) (λ j. j < length slots) b s → Assigned labels (i + 1) (slots ++ s ∷ [])
assigned_more like labels i slots s b in' at so_far own =
    let n : length slots ≡ i = so_far.one_each in
    let more = slots ++ s ∷ [] in
    let same_row : (e d : Label) (j : ℕ) → j < i → row (λ j. j) labels slots e j ≡ row (λ j. j) labels more d j =
    λ e d j lt. ap (λ (a : Label). let r : Rival = record { number = j; label = a; until = (get_or slots j no_slot).until } in r) (get_or_default labels j e d (omega arith))
    ∙ ap (λ (t : Slot). let r : Rival = record { number = j; label = get_or labels j d; until = t.until } in r) (sym (get_or-append slots (s ∷ []) no_slot j (omega arith))) in
    let last : get_or more i no_slot ≡ s = get_or_push slots s no_slot i n in
    record {
      one_each = length-append slots (s ∷ []) ∙ omega arith;
      own = λ d k lt.
          elim (cases_lt k i) [
            | inl less ↦
                rw (get_or-append slots (s ∷ []) no_slot k (omega arith))
                (like (get_or labels k d) (row (λ j. j) labels slots d) (row (λ j. j) labels more d) k (λ j h. same_row d d j (omega arith)) (get_or slots k no_slot) (so_far.own d k less))
            | inr past ↦
                let same : k ≡ i = omega arith in
                let its : get_or labels i d ≡ b = get_or_default labels i d b in' ∙ sym at in
                rw (same, last, its) (like b (rivals_in labels slots b) (row (λ j. j) labels more d) i (λ j l. same_row b d j l) s (rw n at own))
          ];
    }

-- once all labels have slots, each has its own slot among the labels before it
pub assigned_all : (labels : List Label) (i : ℕ) (slots : List Slot) → i ≡ length labels → Assigned labels i slots → HaveOwnSlots (λ j. j) labels slots
assigned_all labels i slots e done =
    (record { one_slot = done.one_each ∙ e; own = λ d k in'. done.own d k (omega arith) })

-- ---- the strips that hold labels

-- before the first label there is none that a strip must have
pub held_none : (labels : List Label) (slots : List Slot) (strips : List Strip) → slots ≡ [] → AreHeld labels slots strips
held_none labels slots strips empty j lt = let none = ap length empty in absurd (omega arith)

-- one label more has a slot, and stands in a strip unless it is empty
pub held_more : (labels : List Label) (slots : List Slot) (strips more : List Strip) (s : Slot) (place : ℕ) →
    place ≡ length slots → AreHeld labels slots strips → ((j : ℕ) → HasPlace strips j → HasPlace more j) →
    HasPlace more place ⊎ ((d : Label) → IsAtMost (value_of s.until) (value_of (get_or labels place d).min)) → AreHeld labels (slots ++ s ∷ []) more
held_more labels slots strips more s place at held kept here j lt =
    let long = length-append slots (s ∷ []) in
    elim (cases_lt j (length slots)) [
      | inl less ↦ elim (held j less) [
        | inl there ↦ inl (kept j there)
        | inr idle ↦ inr (rw (get_or-append slots (s ∷ []) no_slot j less) idle)
      ]
      | inr past ↦
          let same : place ≡ j = omega arith in
          subst (λ (k : ℕ). HasPlace more k ⊎ IsIdle labels (slots ++ s ∷ []) k) same (elim here [
            | inl there ↦ inl there
            | inr idle ↦ inr (λ d. subst (λ (t : Slot). IsAtMost (value_of t.until) (value_of (get_or labels place d).min)) (sym (get_or_push slots s no_slot place (sym at))) (idle d))
          ])
    ]
