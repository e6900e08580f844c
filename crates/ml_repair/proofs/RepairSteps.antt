-- The steps of a repair: its start, labels that do not wait, a label that does, and its end.
use Rattle.std.proofs.Common.{◌≡◌, ◌≢◌, ℕ, zero, suc, ◌+◌, ◌<◌, ◌≤◌, ◌↔◌, ◌⊎◌, inl, inr, arith, refl, sym, subst, ◌∙◌, List, length, get_or, Bool, true, false}
use Rattle.std.proofs.lemmas.Bool.{cases_eq}
use Rattle.ml_ratio.specs.Fraction.{IsSame}
use Rattle.ml_cone.specs.Choice.{IsEnd}
use Rattle.ml_cone.specs.Slots.{IsOwnSlot, row, ends, no_slot}
use Rattle.ml_cone.specs.declared.label.Label.{Label}
use Rattle.ml_cone.specs.declared.slot.Slot.{Slot}
use Rattle.ml_repair.specs.Size.{IsSize}
use Rattle.ml_repair.specs.Touched.{IsRivalBefore, IsTouched}
use Rattle.ml_repair.specs.Repair.{Stands, AreOwn}
use Rattle.ml_repair.proofs.Carrying.{CarriedLaw, own_same}
use Rattle.ml_repair.proofs.Enough.{FreeLaw, SmallerLaw}
use Rattle.ml_repair.proofs.Sizes.{size_none, size_same, size_more}
use Rattle.ml_repair.proofs.Unhit.{IsHitBelow, own_unhit}
use Rattle.ml_repair.proofs.Repairing.{IsTaken, Repairing, IsHitBy, own_before, repairing_more}

-- how many labels are evaluated before a repair goes on to later ones: the edited label, if it comes
abbrev pub first_count : Bool → ℕ
first_count true = 1
first_count false = 0

module _ (free_law : FreeLaw) (smaller_law : SmallerLaw) (carried_law : CarriedLaw) (number : ℕ → ℕ) (labels : List Label)
    (old : List Slot) (at : ℕ) (comes : Bool) (in' : at < length labels) (was : AreOwn number labels old at comes false) where
  abbrev Nothing : ℕ → Type 0
  Nothing k = IsTaken labels at comes (ends old) (ends old) (at + 1) k

  no_hit_yet : (k : ℕ) → ¬ (k ≢ at × IsHitBelow labels at (ends old) (ends old) (at + 1) k × (k < at + 1))
  no_hit_yet k h =
      let hit = h.1 in
      elim hit.3 [
        | inl e ↦ let lt : hit.0 < k = hit.2.0 in let f : hit.0 ≡ at = e in let l : k < at + 1 = h.2 in absurd (omega arith)
        | inr differ ↦ differ refl
      ]

  start_size : IsSize Nothing (first_count comes)
  start_size = go comes refl
    where
      go : (c : Bool) → comes ≡ c → IsSize Nothing (first_count c)
      go true e =
          size_same (λ k. ⊥ ⊎ (k ≡ at)) Nothing 1
          (λ k. (
            λ h. elim h [ inl f ↦ absurd f | inr same ↦ let s : k ≡ at = same in (omega arith, inl (same, e)) ],
            λ t. elim t.1 [ inl a ↦ inr a.0 | inr hit ↦ absurd (no_hit_yet k (hit.0, hit.1, t.0)) ],
          ))
          (size_more (λ k. ⊥) at 0 (λ f. f) (size_none (λ k. ⊥) (λ k f. f)))
      go false e =
          size_none Nothing (λ k t. elim t.1 [ inl a ↦ (let f : true ≡ false = sym a.1 ∙ e in cc) | inr hit ↦ no_hit_yet k (hit.0, hit.1, t.0) ])

  -- the edited label has its slot, if it comes, and its later rivals wait
  pub repairing_start : (waits : ℕ → Type 0) → (comes ≡ true → (d : Label) → IsOwnSlot (row number labels old d) (Stands comes true at at) (get_or labels at d) (get_or old at no_slot)) →
      ((k : ℕ) → k < length labels → at < k → waits k ↔ IsRivalBefore labels at k) → Repairing number labels old at comes (at + 1) old waits (first_count comes)
  repairing_start waits here woken = record {
    one_slot = was.one_slot;
    from = omega arith;
    own = λ d k lt k_in there.
        elim (cases_eq k at) [
          | inl e ↦ subst (λ (k : ℕ). IsOwnSlot (row number labels old d) (Stands comes true at k) (get_or labels k d) (get_or old k no_slot)) (sym e) (here (there e) d)
          | inr other ↦
              let less : k < at = (let ne : k ≢ at = other in omega arith) in
              own_same (row number labels old d) (Stands comes false at k) (Stands comes true at k)
              (λ j. (λ s. (s.0, λ e. absurd (let l : j < k = s.0 in let f : j ≡ at = e in omega arith)), λ s. (s.0, λ e. absurd (let l : j < k = s.0 in let f : j ≡ at = e in omega arith))))
              (get_or labels k d) (get_or old k no_slot) (was.own d k k_in (λ e. absurd (other e)))
        ];
    before = λ k le. refl;
    rest = λ k le. refl;
    waiting = λ k k_in le.
        let w = woken k k_in (omega arith) in (
          λ t. (at, omega arith, w.0 t, inl refl),
          λ h. elim h.3 [
            | inl e ↦ w.1 (subst (λ (j : ℕ). IsRivalBefore labels j k) e h.2)
            | inr differ ↦ absurd (differ refl)
          ],
        );
    size = start_size;
  }

  module _ (i : ℕ) (slots : List Slot) (waits : ℕ → Type 0) (n : ℕ) (so_far : Repairing number labels old at comes i slots waits n) where
    -- ends lie in their ranges
    pub repairing_ends : i < length labels → (d : Label) (j : ℕ) → Stands comes true at i j → IsEnd (get_or labels j d) (ends slots j)
    repairing_ends i_in d j stands = let lt : j < i = stands.0 in (so_far.own d j lt (omega arith) stands.1).is_end

    -- the label at i does not wait
    pub repairing_kept : i < length labels → ¬ (waits i) → Repairing number labels old at comes (i + 1) slots waits n
    repairing_kept i_in idle =
        let beyond = so_far.from in
        let ne : i ≢ at = (λ e. omega arith) in
        let w = so_far.waiting i i_in (omega arith) in
        let unhit : ¬ (IsHitBelow labels at (ends old) (ends slots) i i) = (λ h. idle (w.1 h)) in
        let kept : get_or slots i no_slot ≡ get_or old i no_slot = so_far.rest i (omega arith) in
        let no_more : (k : ℕ) → ¬ (IsHitBy labels at (ends old) (ends slots) i k) =
        (λ (k : ℕ) (h : IsHitBy labels at (ends old) (ends slots) i k). elim h.1 [ inl e ↦ ne e | inr differ ↦ differ (rw kept refl) ]) in
        repairing_more carried_law number labels old at comes i slots slots (λ k h. refl) waits waits n n i_in so_far.one_slot so_far
        (own_unhit free_law smaller_law carried_law number labels at comes i slots old i_in (repairing_ends i_in) was kept ne unhit)
        (λ k k_in lt. let v = so_far.waiting k k_in (omega arith) in (λ t. inl (v.0 t), λ h. elim h [ inl hit ↦ v.1 hit | inr by ↦ absurd (no_more k by) ]))
        (size_same (IsTaken labels at comes (ends old) (ends slots) i) (λ k. IsTaken labels at comes (ends old) (ends slots) i k ⊎ ((k ≡ i) × IsHitBelow labels at (ends old) (ends slots) i i)) n
        (λ k. (λ t. inl t, λ h. elim h [ inl t ↦ t | inr here ↦ absurd (unhit here.1) ])) so_far.size)

    -- the label at i waited, and has its slot now
    module _ (next : List Slot) (i_in : i < length labels) (len : length next ≡ length labels) (others : (k : ℕ) → k ≢ i → get_or next k no_slot ≡ get_or slots k no_slot)
        (own : (d : Label) → IsOwnSlot (row number labels slots d) (Stands comes true at i) (get_or labels i d) (get_or next i no_slot)) (waited : waits i) where
      hit : IsHitBelow labels at (ends old) (ends slots) i i
      hit = (so_far.waiting i i_in (omega arith)).0 waited

      taken_below : (k : ℕ) → IsTaken labels at comes (ends old) (ends slots) i k → k < i
      taken_below k t = t.0

      size_next : IsSize (λ k. IsTaken labels at comes (ends old) (ends slots) i k ⊎ ((k ≡ i) × IsHitBelow labels at (ends old) (ends slots) i i)) (n + 1)
      size_next =
          size_same (λ k. IsTaken labels at comes (ends old) (ends slots) i k ⊎ (k ≡ i))
          (λ k. IsTaken labels at comes (ends old) (ends slots) i k ⊎ ((k ≡ i) × IsHitBelow labels at (ends old) (ends slots) i i)) (n + 1)
          (λ k. (λ h. elim h [ inl t ↦ inl t | inr e ↦ inr (e, hit) ], λ h. elim h [ inl t ↦ inl t | inr here ↦ inr here.0 ]))
          (size_more (IsTaken labels at comes (ends old) (ends slots) i) i n (λ t. let lt = taken_below i t in omega arith) so_far.size)

      own_next : (d : Label) → IsOwnSlot (row number labels next d) (Stands comes true at i) (get_or labels i d) (get_or next i no_slot)
      own_next d = own_before carried_law number labels old at comes i slots next others d i (omega arith) (get_or next i no_slot) (own d)

      was_here : get_or slots i no_slot ≡ get_or old i no_slot
      was_here = so_far.rest i (omega arith)

      -- its end changed: its later rivals wait too
      pub repairing_moved : (woken : ℕ → Type 0) → ¬ (IsSame (ends slots i) (ends next i)) →
          ((k : ℕ) → k < length labels → i < k → woken k ↔ (waits k ⊎ IsRivalBefore labels i k)) → Repairing number labels old at comes (i + 1) next woken (n + 1)
      repairing_moved woken differ made =
          let apart : ¬ (IsSame (ends old i) (ends next i)) = rw was_here at differ in
          repairing_more carried_law number labels old at comes i slots next others waits woken n (n + 1) i_in len so_far own_next
          (λ k k_in lt.
          let v = so_far.waiting k k_in (omega arith) in
          let m = made k k_in lt in (
            λ t. elim (m.0 t) [ inl w ↦ inl (v.0 w) | inr r ↦ inr (r, inr apart) ],
            λ h. elim h [ inl b ↦ m.1 (inl (v.1 b)) | inr by ↦ m.1 (inr by.0) ],
          ))
          size_next

      -- its end is the same
      pub repairing_still : IsSame (ends slots i) (ends next i) → Repairing number labels old at comes (i + 1) next waits (n + 1)
      repairing_still same =
          let alike : IsSame (ends old i) (ends next i) = rw was_here at same in
          let beyond = so_far.from in
          repairing_more carried_law number labels old at comes i slots next others waits waits n (n + 1) i_in len so_far own_next
          (λ k k_in lt.
          let v = so_far.waiting k k_in (omega arith) in (
            λ t. inl (v.0 t),
            λ h. elim h [
              | inl b ↦ v.1 b
              | inr by ↦ absurd (elim by.1 [ inl e ↦ (let f : i ≡ at = e in omega arith) | inr d ↦ d alike ])
            ],
          ))
          size_next

  -- labels that do not wait are passed over
  pub repairing_skip : (m i : ℕ) (slots : List Slot) (waits : ℕ → Type 0) (n : ℕ) → i + m ≤ length labels → ((k : ℕ) → i ≤ k → k < i + m → ¬ (waits k)) →
      Repairing number labels old at comes i slots waits n → Repairing number labels old at comes (i + m) slots waits n
  repairing_skip zero i slots waits n le idle so_far = let e : i ≡ i + 0 = omega arith in subst (λ (j : ℕ). Repairing number labels old at comes j slots waits n) e so_far
  repairing_skip (suc m) i slots waits n le idle so_far =
      let e : i + 1 + m ≡ i + suc m = omega arith in
      subst (λ (j : ℕ). Repairing number labels old at comes j slots waits n) e
      (repairing_skip m (i + 1) slots waits n (omega arith) (λ k a b. idle k (omega arith) (omega arith)) (repairing_kept i slots waits n so_far (omega arith) (idle i (omega arith) (omega arith))))

  -- ---- nothing waits any more

  -- each label that is there after the edit has the slot that those before it leave
  pub repaired_own : (slots : List Slot) (waits : ℕ → Type 0) (n : ℕ) → Repairing number labels old at comes (length labels) slots waits n → AreOwn number labels slots at comes true
  repaired_own slots waits n done = record {
    one_slot = done.one_slot;
    own = λ d k k_in there. done.own d k k_in k_in there;
  }

  -- as many labels were evaluated as the edit touches
  pub repaired_size : (slots : List Slot) (waits : ℕ → Type 0) (n : ℕ) →
      Repairing number labels old at comes (length labels) slots waits n → IsSize (IsTouched labels at comes (ends old) (ends slots)) n
  repaired_size slots waits n done =
      size_same (IsTaken labels at comes (ends old) (ends slots) (length labels)) (IsTouched labels at comes (ends old) (ends slots)) n
      (λ k. (
        λ t. (t.0, elim t.1 [ inl a ↦ inl a | inr hit ↦ inr (hit.0, (hit.1.0, hit.1.2, hit.1.3)) ]),
        λ t. (t.0, elim t.1 [ inl a ↦ inl a | inr hit ↦ inr (hit.0, (hit.1.0, (let l : hit.1.0 < k = hit.1.1.0 in let m : k < length labels = t.0 in omega arith), hit.1.1, hit.1.2)) ]),
      ))
      done.size
