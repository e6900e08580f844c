-- Own slots of labels in a list with one more label, and in the list without it.
use Rattle.std.proofs.Common.{◌≡◌, ◌≢◌, ℕ, ◌+◌, ◌-◌, ◌<◌, ◌≤◌, ◌⊎◌, inl, inr, arith, refl, sym, subst, ap, List, length, get_or, Bool, true, false}
use Rattle.std.specs.Prelude.{◌↔◌, ◌==◌, ◌&&◌, ◌||◌, nat_lt, IsTrue, insert, remove}
use Rattle.std.proofs.lemmas.Bool.{cases_lt}
use Rattle.std.proofs.lemmas.Bool.Decides.{nat_tests}
use Rattle.std.proofs.lemmas.List.Edits.{length-insert, get_or-insert_below, get_or-insert_above, length-remove, get_or-remove_below, get_or-remove_above}
use Rattle.ml_ratio.specs.Fraction.{value_of}
use Rattle.ml_cone.specs.Choice.{Choice, IsEnd, IsLongest}
use Rattle.ml_cone.specs.Slots.{IsOwnSlot, HaveOwnSlots, row, ends, no_slot}
use Rattle.ml_cone.specs.declared.label.Label.{Label}
use Rattle.ml_cone.specs.declared.slot.Slot.{Slot}
use Rattle.ml_conflict.specs.Carried.{AreSameRival}
use Rattle.ml_repair.specs.Repair.{Stands, AreOwn}
use Rattle.ml_repair.specs.Touched.{left_out}
use Rattle.ml_repair.proofs.Carrying.{CarriedLaw, carried_by, own_same, stand_test, is_standing, is_below, both_tests, is_same}

-- the place k of the shorter list is the place j of the longer
abbrev pub IsPlaceOf : ℕ → ℕ → ℕ → Type 0
IsPlaceOf at j k = ((j < at) × (j ≡ k)) ⊎ ((at ≤ k) × (j ≡ k + 1))

-- the list ys is xs without the place `at`
pub record IsWithout {X : Type 0} (at : ℕ) (xs ys : List X) : Type 0 where
  pub lengths : length xs ≡ length ys + 1
  pub in_list : at ≤ length ys
  pub same : (j k : ℕ) (d : X) → IsPlaceOf at j k → get_or xs j d ≡ get_or ys k d

-- a list into which an element came at a place is, without that place, the old list
pub without_insert : {X : Type 0} (xs : List X) (at : ℕ) (x : X) → at ≤ length xs → IsWithout at (insert xs at x) xs
without_insert {X} xs at x le =
    record {
      lengths = length-insert xs at x le;
      in_list = le;
      same = λ j k d p.
          elim p [
            | inl below ↦ let e : j ≡ k = below.1 in rw (← e) (get_or-insert_below xs at x d j below.0 le)
            | inr above ↦ rw above.1 (get_or-insert_above xs at x d k above.0 le)
          ];
    }

-- a list from which the element at a place was removed is the old list without that place
pub without_remove : {X : Type 0} (xs : List X) (at : ℕ) → at < length xs → IsWithout at xs (remove xs at)
without_remove {X} xs at lt =
    let len = length-remove xs at lt in
    record {
      lengths = sym len;
      in_list = omega arith;
      same = λ j k d p.
          elim p [
            | inl below ↦ let e : j ≡ k = below.1 in rw (← e) (sym (get_or-remove_below xs at d j below.0 lt))
            | inr above ↦ rw above.1 (sym (get_or-remove_above xs at d k above.0 lt))
          ];
    }

either_true : (a b : Bool) (A B : Type 0) → A ↔ IsTrue a → B ↔ IsTrue b → (A ⊎ B) ↔ IsTrue (a || b)
either_true true b A B f g = (λ h. refl, λ h. inl (f.1 refl))
either_true false b A B f g = (λ h. elim h [ inl x ↦ absurd (let e : false ≡ true = f.0 x in cc) | inr y ↦ g.0 y ], λ h. inr (g.1 h))

at_most_test : (a k : ℕ) → (a ≤ k) ↔ IsTrue (nat_lt a (k + 1))
at_most_test a k = let t = is_below (k + 1) a in (λ h. t.0 (omega arith), λ h. let lt = t.1 h in omega arith)

abbrev place_test : ℕ → ℕ → ℕ → Bool
place_test at j k = (nat_lt j at && (j == k)) || (nat_lt at (k + 1) && (j == (k + 1)))

is_place : (at j k : ℕ) → IsPlaceOf at j k ↔ IsTrue (place_test at j k)
is_place at j k =
    either_true (nat_lt j at && (j == k)) (nat_lt at (k + 1) && (j == (k + 1))) ((j < at) × (j ≡ k)) ((at ≤ k) × (j ≡ k + 1))
    (both_tests (nat_lt j at) (j == k) (j < at) (j ≡ k) (is_below at j) (is_same j k))
    (both_tests (nat_lt at (k + 1)) (j == (k + 1)) (at ≤ k) (j ≡ k + 1) (at_most_test at k) (is_same j (k + 1)))

module _ (carried_law : CarriedLaw) (at : ℕ) (number shorter_number : ℕ → ℕ) (labels shorter_labels : List Label) (slots shorter_slots : List Slot)
    (of_numbers : (j k : ℕ) → IsPlaceOf at j k → number j ≡ shorter_number k) (of_labels : IsWithout at labels shorter_labels)
    (of_slots : IsWithout at slots shorter_slots) (comes after : Bool) (apart : ¬ (comes ≡ after)) where
  row_joined : (d : Label) (j k : ℕ) → IsPlaceOf at j k → AreSameRival (row number labels slots d j) (row shorter_number shorter_labels shorter_slots d k)
  row_joined d j k p =
      let e = of_slots.same j k no_slot p in
      record { number = of_numbers j k p; label = of_labels.same j k d p; until = rw e refl }

  row_back : (d : Label) (j k : ℕ) → IsPlaceOf at j k → AreSameRival (row shorter_number shorter_labels shorter_slots d k) (row number labels slots d j)
  row_back d j k p =
      let e = of_slots.same j k no_slot p in
      record { number = sym (of_numbers j k p); label = sym (of_labels.same j k d p); until = rw e refl }

  below : (i : ℕ) → 0 < i → (m : ℕ) × (i ≡ m + 1)
  below i h = (i - 1, omega arith)

  forth : (j k i : ℕ) → IsPlaceOf at j k → Stands comes after at j i → (m : ℕ) × (m < k) × IsPlaceOf at i m
  forth j k i p stands =
      let lt : i < j = stands.0 in
      let ne : i ≢ at = (λ e. apart (stands.1 e)) in
      elim (cases_lt i at) [
        | inl less ↦ (i, (elim p [ inl b ↦ (let x = b.1 in omega arith) | inr a ↦ (let x = a.0 in omega arith) ]), inl (less, refl))
        | inr more ↦
            let m : (m : ℕ) × (i ≡ m + 1) = below i (omega arith) in
            (m.0, (let e : i ≡ m.0 + 1 = m.1 in elim p [ inl b ↦ (let x = b.0 in omega arith) | inr a ↦ (let x = a.1 in omega arith) ]), inr ((let e : i ≡ m.0 + 1 = m.1 in omega arith), m.1))
      ]

  back : (j k m : ℕ) → IsPlaceOf at j k → m < k → (i : ℕ) × Stands comes after at j i × IsPlaceOf at i m
  back j k m p lt =
      elim (cases_lt m at) [
        | inl less ↦ (m, ((elim p [ inl b ↦ (let x = b.1 in omega arith) | inr a ↦ (let x = a.1 in omega arith) ]), λ e. absurd (let f : m ≡ at = e in omega arith)), inl (less, refl))
        | inr more ↦
            (m + 1, ((elim p [ inl b ↦ (let x = b.0 in let y = b.1 in omega arith) | inr a ↦ (let x = a.1 in omega arith) ]), λ e. absurd (let f : m + 1 ≡ at = e in omega arith)), inr (more, refl))
      ]

  order : (j k i m : ℕ) → IsPlaceOf at j k → IsPlaceOf at i m → m < k → i < j
  order j k i m p q lt =
      elim p [
        | inl b ↦ (let x = b.0 in let y = b.1 in elim q [ inl b' ↦ (let x' = b'.1 in omega arith) | inr a' ↦ (let x' = a'.0 in omega arith) ])
        | inr a ↦ (let x = a.0 in let y = a.1 in elim q [ inl b' ↦ (let x' = b'.1 in let z = b'.0 in omega arith) | inr a' ↦ (let x' = a'.1 in omega arith) ])
      ]

  turned_order : (k j m i : ℕ) → IsPlaceOf at j k → IsPlaceOf at i m → i < j → m < k
  turned_order k j m i p q lt =
      elim p [
        | inl b ↦ (let x = b.0 in let y = b.1 in elim q [ inl b' ↦ (let x' = b'.1 in omega arith) | inr a' ↦ (let x' = a'.0 in let y' = a'.1 in omega arith) ])
        | inr a ↦ (let x = a.0 in let y = a.1 in elim q [ inl b' ↦ (let x' = b'.0 in let y' = b'.1 in omega arith) | inr a' ↦ (let x' = a'.1 in omega arith) ])
      ]

  -- a slot that is left by the labels that stand in the longer list is left by those before the place in the shorter one
  pub own_shorter : (d low : Label) (slot : Slot) (j k : ℕ) → IsPlaceOf at j k → IsOwnSlot (row number labels slots d) (Stands comes after at j) low slot →
      IsOwnSlot (row shorter_number shorter_labels shorter_slots d) (λ m. m < k) low slot
  own_shorter d low slot j k p own =
      carried_by (Stands comes after at j) (λ m. m < k) (stand_test comes after at j) (λ m. nat_lt m k) (is_standing comes after at j) (is_below k) (IsPlaceOf at) (place_test at) (is_place at)
      carried_law low (row number labels slots d) (row shorter_number shorter_labels shorter_slots d)
      (record {
        forth = λ i stands. let f = forth j k i p stands in inr (f.0, f.1, row_joined d i f.0 f.2, f.2);
        back = λ m lt. let b = back j k m p lt in inr (b.0, b.1, row_joined d b.0 m b.2, b.2);
        order = order;
      }) slot own

  -- a slot that is left by the labels before the place in the shorter list is left by those that stand in the longer one
  pub own_longer : (d low : Label) (slot : Slot) (j k : ℕ) → IsPlaceOf at j k →
      IsOwnSlot (row shorter_number shorter_labels shorter_slots d) (λ m. m < k) low slot → IsOwnSlot (row number labels slots d) (Stands comes after at j) low slot
  own_longer d low slot j k p own =
      carried_by (λ m. m < k) (Stands comes after at j) (λ m. nat_lt m k) (stand_test comes after at j) (is_below k)
      (is_standing comes after at j) (λ k j. IsPlaceOf at j k) (λ k j. place_test at j k) (λ k j. is_place at j k)
      carried_law low (row shorter_number shorter_labels shorter_slots d) (row number labels slots d)
      (record {
        forth = λ m lt. let b = back j k m p lt in inr (b.0, b.1, row_back d b.0 m b.2, b.2);
        back = λ i stands. let f = forth j k i p stands in inr (f.0, f.1, row_back d i f.0 f.2, f.2);
        order = λ k j m i p q lt. turned_order k j m i p q lt;
      }) slot own

  place_of : (j : ℕ) → ¬ (j ≡ at) → (k : ℕ) × IsPlaceOf at j k
  place_of j ne =
      let ne' : j ≢ at = ne in
      elim (cases_lt j at) [
        | inl less ↦ (j, inl (less, refl))
        | inr more ↦ (j - 1, inr (omega arith, omega arith))
      ]

  long : (k : ℕ) → (j : ℕ) × IsPlaceOf at j k
  long k = elim (cases_lt k at) [ inl less ↦ (k, inl (less, refl)) | inr more ↦ (k + 1, inr (more, refl)) ]

  -- the longer list, of which the edited label is left out, and the shorter one
  pub all_shorter : AreOwn number labels slots at comes after → HaveOwnSlots shorter_number shorter_labels shorter_slots
  all_shorter are =
      let a = are.one_slot in
      let y = of_labels.lengths in
      let z = of_slots.lengths in
      record {
        one_slot = omega arith;
        own = λ d k k_in.
            let w = long k in
            let in' : w.0 < length labels = elim w.1 [ inl b ↦ (let e = b.1 in omega arith) | inr a ↦ (let e = a.1 in omega arith) ] in
            let ne : ¬ (w.0 ≡ at) = (λ e. let f : w.0 ≡ at = e in elim w.1 [ inl b ↦ (let h = b.0 in omega arith) | inr a ↦ (let h = a.0 in let g = a.1 in omega arith) ]) in
            rw (← of_labels.same w.0 k d w.1, ← of_slots.same w.0 k no_slot w.1)
            (own_shorter d (get_or labels w.0 d) (get_or slots w.0 no_slot) w.0 k w.1 (are.own d w.0 in' (λ e. absurd (ne e))));
      }

  -- where the labels of the shorter list have their own slots, so have those of the longer one but the edited label
  pub all_longer : HaveOwnSlots shorter_number shorter_labels shorter_slots → AreOwn number labels slots at comes after
  all_longer all =
      let a = all.one_slot in
      let y = of_labels.lengths in
      let z = of_slots.lengths in
      record {
        one_slot = omega arith;
        own = λ d j j_in there.
            let ne : ¬ (j ≡ at) = (λ e. apart (there e)) in
            let w = place_of j ne in
            let k_in : w.0 < length shorter_labels = elim w.1 [ inl b ↦ (let e = b.0 in let f = b.1 in let g = of_labels.in_list in omega arith) | inr a ↦ (let e = a.1 in omega arith) ] in
            rw (of_labels.same j w.0 d w.1, of_slots.same j w.0 no_slot w.1)
            (own_longer d (get_or shorter_labels w.0 d) (get_or shorter_slots w.0 no_slot) j w.0 w.1 (all.own d w.0 k_in));
      }

-- where the edited label is there, both are the same
pub own_all_there : (number : ℕ → ℕ) (labels : List Label) (slots : List Slot) (at : ℕ) (comes after : Bool) →
    comes ≡ after → HaveOwnSlots number labels slots → AreOwn number labels slots at comes after
own_all_there number labels slots at comes after same all =
    record {
      one_slot = all.one_slot;
      own = λ d i in' there. own_same (row number labels slots d) (λ j. j < i) (Stands comes after at i)
          (λ j. (λ lt. (lt, λ e. same), λ s. s.0)) (get_or labels i d) (get_or slots i no_slot) (all.own d i in');
    }

-- and where all labels that are there have their own slots, so has each label of the list
pub all_own_there : (number : ℕ → ℕ) (labels : List Label) (slots : List Slot) (at : ℕ) (comes after : Bool) →
    comes ≡ after → AreOwn number labels slots at comes after → HaveOwnSlots number labels slots
all_own_there number labels slots at comes after same are =
    record {
      one_slot = are.one_slot;
      own = λ d i in'. own_same (row number labels slots d) (Stands comes after at i) (λ j. j < i)
          (λ j. (λ s. s.0, λ lt. (lt, λ e. same))) (get_or labels i d) (get_or slots i no_slot) (are.own d i in' (λ e. same));
    }

-- the longest choice, read at its places alone
pub longest_same : (labels : List Label) (b c : Choice) → ((k : ℕ) → k < length labels → b k ≡ c k) → IsLongest labels b → IsLongest labels c
longest_same labels b c e p =
    record {
      is_choice = λ i d in'. subst (IsEnd (get_or labels i d)) (e i in') (p.is_choice i d in');
      free = λ j i d lt in'. let j_in : j < length labels = omega arith in rw (← e i in', ← e j j_in) (p.free j i d lt in');
      greatest = λ o choice free i in' first.
          rw (← e i in')
          (p.greatest o choice free i in' (record {
            before = λ j lt. let j_in : j < length labels = omega arith in rw (e j j_in) (first.before j lt);
            here = λ s. first.here (rw (e i in') at s);
          }));
    }

-- the ends of slots from which one was removed are the choice that leaves its place out
pub left_out_ends : (slots : List Slot) (at k : ℕ) → at < length slots → ends (remove slots at) k ≡ left_out at (ends slots) k
left_out_ends slots at k lt =
    elim (cases_lt k at) [
      | inl less ↦ let t : nat_lt k at ≡ true = grind (arith, nat_tests) in rw t (ap (λ (s : Slot). value_of s.until) (get_or-remove_below slots at no_slot k less lt))
      | inr more ↦ let t : nat_lt k at ≡ false = grind (arith, nat_tests) in rw t (ap (λ (s : Slot). value_of s.until) (get_or-remove_above slots at no_slot k more lt))
    ]
