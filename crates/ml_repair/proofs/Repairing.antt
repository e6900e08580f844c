-- Labels evaluated one after another, in priority order, as far as those that wait.
use Rattle.std.proofs.Common.{◌≡◌, ◌≢◌, ℕ, ◌+◌, ◌<◌, ◌≤◌, ◌↔◌, ◌⊎◌, inl, inr, arith, refl, sym, subst, ap, ◌∙◌, List, length, get_or, Bool, true}
use Rattle.std.specs.Prelude.{◌==◌}
use Rattle.std.proofs.lemmas.Bool.{cases_lt}
use Rattle.ml_ratio.specs.Fraction.{Fraction, value_of, IsSame}
use Rattle.ml_cone.specs.Choice.{Choice}
use Rattle.ml_cone.specs.Slots.{IsOwnSlot, row, ends, no_slot}
use Rattle.ml_cone.specs.declared.label.Label.{Label}
use Rattle.ml_cone.specs.declared.slot.Slot.{Slot}
use Rattle.ml_conflict.specs.Carried.{AreSameRival}
use Rattle.ml_repair.specs.Size.{IsSize}
use Rattle.ml_repair.specs.Touched.{IsRivalBefore}
use Rattle.ml_repair.specs.Repair.{Stands}
use Rattle.ml_repair.proofs.Carrying.{CarriedLaw, carried_by, stand_test, is_standing, is_same}
use Rattle.ml_repair.proofs.Sizes.{size_same}
use Rattle.ml_repair.proofs.Unhit.{IsHitBelow}

-- the label at k was evaluated before i
abbrev pub IsTaken : List Label → ℕ → Bool → Choice → Choice → ℕ → ℕ → Type 0
IsTaken labels at comes b c i k = (k < i) × (((k ≡ at) × (comes ≡ true)) ⊎ ((k ≢ at) × IsHitBelow labels at b c i k))

-- the labels before i have their slots, and of the others those wait that something before i hits
pub record Repairing (number : ℕ → ℕ) (labels : List Label) (old : List Slot) (at : ℕ) (comes : Bool) (i : ℕ) (slots : List Slot) (waits : ℕ → Type 0) (n : ℕ) : Type 0 where
  pub one_slot : length slots ≡ length labels
  pub from : at < i
  pub own : (d : Label) (k : ℕ) → k < i → k < length labels → (k ≡ at → comes ≡ true) → IsOwnSlot (row number labels slots d) (Stands comes true at k) (get_or labels k d) (get_or slots k no_slot)
  pub before : (k : ℕ) → k ≤ at → get_or slots k no_slot ≡ get_or old k no_slot
  pub rest : (k : ℕ) → i ≤ k → get_or slots k no_slot ≡ get_or old k no_slot
  pub waiting : (k : ℕ) → k < length labels → i ≤ k → waits k ↔ IsHitBelow labels at (ends old) (ends slots) i k
  pub size : IsSize (IsTaken labels at comes (ends old) (ends slots) i) n

-- what the label at i adds to those that are hit
abbrev pub IsHitBy : List Label → ℕ → Choice → Choice → ℕ → ℕ → Type 0
IsHitBy labels at b c i k = IsRivalBefore labels i k × ((i ≡ at) ⊎ (¬ (IsSame (b i) (c i))))

module _ (carried_law : CarriedLaw) (number : ℕ → ℕ) (labels : List Label) (old : List Slot) (at : ℕ) (comes : Bool)
    (i : ℕ) (slots next : List Slot) (others : (k : ℕ) → k ≢ i → get_or next k no_slot ≡ get_or slots k no_slot) where
  end_same : (k : ℕ) → k < i → ends next k ≡ ends slots k
  end_same k lt = let ne : k ≢ i = (λ e. omega arith) in ap (λ (s : Slot). value_of s.until) (others k ne)

  -- one place more
  pub hit_step : (k : ℕ) → IsHitBelow labels at (ends old) (ends next) (i + 1) k ↔ (IsHitBelow labels at (ends old) (ends slots) i k ⊎ IsHitBy labels at (ends old) (ends next) i k)
  hit_step k = (
    λ h.
        elim (cases_lt h.0 i) [
          | inl less ↦ inl (h.0, less, h.2, subst (λ (f : Fraction). (h.0 ≡ at) ⊎ (¬ (IsSame (ends old h.0) f))) (end_same h.0 less) h.3)
          | inr more ↦
              let lt : h.0 < i + 1 = h.1 in
              let e : h.0 ≡ i = omega arith in
              inr (subst (λ (j : ℕ). IsHitBy labels at (ends old) (ends next) j k) e (h.2, h.3))
        ],
    λ h.
        elim h [
          | inl hit ↦ let lt : hit.0 < i = hit.1 in (hit.0, omega arith, hit.2, subst (λ (f : Fraction). (hit.0 ≡ at) ⊎ (¬ (IsSame (ends old hit.0) f))) (sym (end_same hit.0 lt)) hit.3)
          | inr by ↦ (i, omega arith, by.0, by.1)
        ],
  )

  -- own slots of labels before i know nothing of the place i
  pub own_before : (d : Label) (k : ℕ) → k ≤ i → (slot : Slot) → IsOwnSlot (row number labels slots d) (Stands comes true at k) (get_or labels k d) slot →
      IsOwnSlot (row number labels next d) (Stands comes true at k) (get_or labels k d) slot
  own_before d k le slot own =
      carried_by (Stands comes true at k) (Stands comes true at k) (stand_test comes true at k) (stand_test comes true at k)
      (is_standing comes true at k) (is_standing comes true at k) (λ j m. j ≡ m) (λ j m. j == m) is_same
      carried_law (get_or labels k d) (row number labels slots d) (row number labels next d)
      (record {
        forth = λ j stands. inr (j, stands, alike d j (let lt : j < k = stands.0 in omega arith), refl);
        back = λ j stands. inr (j, stands, alike d j (let lt : j < k = stands.0 in omega arith), refl);
        order = λ j k i m e e' lt. omega arith;
      })
      slot own
    where
      alike : (d : Label) (j : ℕ) → j < i → AreSameRival (row number labels slots d j) (row number labels next d j)
      alike d j lt =
          let e : ends next j ≡ ends slots j = end_same j lt in
          record { number = refl; label = refl; until = rw e refl }

  -- one place more is done
  pub repairing_more : (waits woken : ℕ → Type 0) (n m : ℕ) → i < length labels → length next ≡ length labels → Repairing number labels old at comes i slots waits n →
      ((d : Label) → IsOwnSlot (row number labels next d) (Stands comes true at i) (get_or labels i d) (get_or next i no_slot)) →
      ((k : ℕ) → k < length labels → i < k → woken k ↔ (IsHitBelow labels at (ends old) (ends slots) i k ⊎ IsHitBy labels at (ends old) (ends next) i k)) →
      IsSize (λ k. IsTaken labels at comes (ends old) (ends slots) i k ⊎ ((k ≡ i) × IsHitBelow labels at (ends old) (ends slots) i i)) m →
      Repairing number labels old at comes (i + 1) next woken m
  repairing_more waits woken n m in' len so_far own hits size =
      let from = so_far.from in
      record {
        one_slot = len;
        from = omega arith;
        own = λ d k lt k_in there.
            elim (cases_lt k i) [
              | inl less ↦
                  let ne : k ≢ i = (λ e. omega arith) in
                  rw (others k ne) (own_before d k (omega arith) (get_or slots k no_slot) (so_far.own d k less k_in there))
              | inr more ↦ let e : k ≡ i = omega arith in subst (λ (k : ℕ). IsOwnSlot (row number labels next d) (Stands comes true at k) (get_or labels k d) (get_or next k no_slot)) (sym e) (own d)
            ];
        before = λ k le. let ne : k ≢ i = (λ e. omega arith) in others k ne ∙ so_far.before k le;
        rest = λ k le. let ne : k ≢ i = (λ e. omega arith) in others k ne ∙ so_far.rest k (omega arith);
        waiting = λ k k_in le. let s = hit_step k in let h = hits k k_in (omega arith) in (λ t. s.1 (h.0 t), λ t. h.1 (s.0 t));
        size = size_same (λ k. IsTaken labels at comes (ends old) (ends slots) i k ⊎ ((k ≡ i) × IsHitBelow labels at (ends old) (ends slots) i i))
            (IsTaken labels at comes (ends old) (ends next) (i + 1)) m (λ k. taken from k) size;
      }
    where
      no_hit : (k : ℕ) → k ≤ i → ¬ (IsHitBy labels at (ends old) (ends next) i k)
      no_hit k le by = let lt : i < k = by.0.0 in omega arith

      taken : at < i → (k : ℕ) → (IsTaken labels at comes (ends old) (ends slots) i k ⊎ ((k ≡ i) × IsHitBelow labels at (ends old) (ends slots) i i))
          ↔ IsTaken labels at comes (ends old) (ends next) (i + 1) k
      taken from k = (
        λ h.
            elim h [
              | inl t ↦ let lt : k < i = t.0 in (omega arith, elim t.1 [ inl a ↦ inl a | inr hit ↦ inr (hit.0, (hit_step k).1 (inl hit.1)) ])
              | inr here ↦
                  let e : k ≡ i = here.0 in
                  (omega arith, inr ((λ f. omega arith), (hit_step k).1 (inl (subst (λ (k : ℕ). IsHitBelow labels at (ends old) (ends slots) i k) (sym e) here.1))))
            ],
        λ t.
            let lt : k < i + 1 = t.0 in
            elim (cases_lt k i) [
              | inl less ↦
                  inl (
                    less,
                    elim t.1 [
                      | inl a ↦ inl a
                      | inr hit ↦ elim ((hit_step k).0 hit.1) [ inl b ↦ inr (hit.0, b) | inr by ↦ absurd (no_hit k (omega arith) by) ]
                    ],
                  )
              | inr more ↦
                  let e : k ≡ i = omega arith in
                  inr (
                    e,
                    elim t.1 [
                      | inl a ↦ absurd (let f : k ≡ at = a.0 in omega arith)
                      | inr hit ↦ elim ((hit_step k).0 hit.1) [ inl b ↦ subst (λ (k : ℕ). IsHitBelow labels at (ends old) (ends slots) i k) e b | inr by ↦ absurd (no_hit k (omega arith) by) ]
                    ],
                  )
            ],
      )
