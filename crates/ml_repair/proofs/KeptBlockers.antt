-- The slot among the blocker that stays and the labels whose ends changed is that among all that stand before.
use Rattle.std.proofs.Common.{◌≡◌, ◌≢◌, ℕ, ◌+◌, ◌<◌, ◌≤◌, Bool, true, false, List, [], ◌∷◌, ◌++◌, length, get_or, map, Contains, ◌⊎◌, inl, inr, refl, sym, ap, ◌∙◌, subst, arith, Option, Some, None}
use Rattle.std.specs.Prelude.{◌↔◌, IfSome, All}
use Rattle.std.specs.List.Sorted.{IsStrictlyIncreasing}
use Rattle.std.proofs.lemmas.Bool.{cases_lt, cases_eq}
use Rattle.std.proofs.lemmas.List.{get_or_default, length-map}
use Rattle.std.proofs.lemmas.List.Elements.{Contains-append_left, Contains-push, Contains-push_cases}
use Rattle.std.proofs.lemmas.List.Kept.{AllPairs-from_increasing}
use Rattle.ml_ratio.specs.Fraction.{Fraction, value_of, IsLess, IsAtMost, IsSame}
use Rattle.ml_ratio.specs.declared.ratio.Ratio.{Ratio}
use Rattle.ml_ratio.proofs.lemmas.Fractions.{at_most_trans, at_most_less, same_at_most}
use Rattle.ml_ratio.proofs.lemmas.Lists.{same_place}
use Rattle.ml_cone.specs.Choice.{IsLimit}
use Rattle.ml_cone.specs.Slots.{Rival, RivalAllows, IsFirstAt, IsSetter, IsOwnSlot, rival_at, row, ends, no_slot}
use Rattle.ml_cone.specs.declared.label.Label.{Label}
use Rattle.ml_cone.specs.declared.slot.Slot.{Slot}
use Rattle.ml_store.specs.Rows.{numbers_in, number_at, labels_in, HaveOwnNumbers}
use Rattle.ml_store.specs.declared.row.Row.{Row}
use Rattle.ml_repair.specs.Kept.{AreChanged, IsOwnBefore, IsStaying, IsLeftBy}
use Rattle.ml_repair.specs.Repair.{Stands, AreLeaving, present_slots, present_at, rival_in}
use Rattle.ml_store.specs.declared.moved.Moved.{Moved}
use Rattle.ml_repair.proofs.Enough.{SmallerLaw, contained_or_not}
use Rattle.ml_repair.proofs.Present.{chosen_is, length-labels}

-- the law: a label sets the same limit where its end and the limit are written as other equal fractions
abbrev pub SameLaw : Type 0
SameLaw = (low high : Label) (u v f g : Fraction) → IsSame u v → IsSame f g → IsLimit low high u f → IsLimit low high v g

-- a label as a rival, with its number and its end
abbrev pub rival_of : ℕ → Label → Ratio → Rival
rival_of n a u = record { number = n; label = a; until = u }

-- ---- rivals that are alike where they stand

first_alike : (rivals others : ℕ → Rival) (P : ℕ → Type 0) → ((j : ℕ) → P j → rivals j ≡ others j) → (low : Label) (f : Fraction) (n : ℕ) → IsFirstAt rivals P low f n → IsFirstAt others P low f n
first_alike rivals others P alike low f n first =
    let e : rivals first.place ≡ others first.place = alike first.place first.is_standing in
    record {
      place = first.place;
      is_standing = first.is_standing;
      its_number = ap (λ (r : Rival). r.number) (sym e) ∙ first.its_number;
      sets = subst (λ (r : Rival). IsLimit low r.label (value_of r.until) f) e first.sets;
      first = λ k less stands limit. first.first k less stands (subst (λ (r : Rival). IsLimit low r.label (value_of r.until) f) (sym (alike k stands)) limit);
    }

setter_alike : (rivals others : ℕ → Rival) (P : ℕ → Type 0) → ((j : ℕ) → P j → rivals j ≡ others j) →
    (low : Label) (f : Fraction) (b : Option ℕ) → IsSetter rivals P low f b → IsSetter others P low f b
setter_alike rivals others P alike low f None h = h
setter_alike rivals others P alike low f (Some n) h = (h.0, first_alike rivals others P alike low f n h.1)

own_alike : (rivals others : ℕ → Rival) (P : ℕ → Type 0) → ((j : ℕ) → P j → rivals j ≡ others j) → (low : Label) (slot : Slot) → IsOwnSlot rivals P low slot → IsOwnSlot others P low slot
own_alike rivals others P alike low slot own = record {
  is_end = own.is_end;
  allowed = λ j stands. subst (RivalAllows low (value_of slot.until)) (alike j stands) (own.allowed j stands);
  greatest = λ e end all. own.greatest e end (λ j stands. subst (RivalAllows low e) (sym (alike j stands)) (all j stands));
  setter = setter_alike rivals others P alike low (value_of slot.until) slot.blocker own.setter;
}

same_both : (a b : Fraction) → IsAtMost a b → IsAtMost b a → IsSame a b
same_both a b p q = omega arith

less_is_apart : (a b : Fraction) → IsLess a b → IsSame a b → ⊥
less_is_apart a b less same = omega arith

-- ---- the places

module _ (places : List ℕ) (up : IsStrictlyIncreasing places) where
  -- a lower place stands earlier
  earlier : (m c : ℕ) → m < length places → c < length places → get_or places m 0 < get_or places c 0 → m < c
  earlier m c lt lt' less =
      elim (cases_lt m c) [
        | inl before ↦ before
        | inr after ↦ elim (cases_eq c m) [
          | inl same ↦ absurd (let e : get_or places c 0 ≡ get_or places m 0 = ap (λ k. get_or places k 0) same in omega arith)
          | inr apart ↦
              let strict : c < m = (let ne : c ≡ m → ⊥ = apart in omega arith) in
              let h = AllPairs-from_increasing places up c m 0 strict lt in
              absurd (omega arith)
        ]
      ]

module _ (smaller_law : SmallerLaw) (same_law : SameLaw) (rows : List Row) (moved : List Moved) (low : Label) (at : ℕ) (comes : Bool) (i : ℕ) (changed places : List ℕ) (slot : Slot)
    (differ : HaveOwnNumbers rows) (within : i < length rows) (its : (d : Label) → get_or (labels_in rows) i d ≡ low) (known : IsOwnBefore rows moved at comes changed i)
    (stand : (p : ℕ) → Contains places p → Stands comes true at i p) (has_changed : (p : ℕ) → Contains changed p → Contains places p)
    (has_blocker : IfSome (present_at rows moved i).blocker (λ n. (b : ℕ) × IsStaying rows changed at i n b × Contains places b))
    (up : IsStrictlyIncreasing places) (among : IsOwnSlot (rival_at low (map (rival_in rows moved low) places)) (λ k. k < length (map (rival_in rows moved low) places)) low slot) where
  own : IsOwnSlot (row (number_at rows) (labels_in rows) known.was low) (Stands comes false at i) low (present_at rows moved i)
  own = subst (λ (a : Label). IsOwnSlot (row (number_at rows) (labels_in rows) known.was low) (Stands comes false at i) a (present_at rows moved i)) (its low) (known.own low)

  stood : (j : ℕ) → j < i → j ≢ at → Stands comes false at i j
  stood j lt apart = (lt, λ e. absurd (apart e))

  -- what is not among the places is not the edited label, and has its end of before
  apart_from : (j : ℕ) → Stands comes true at i j → ¬ (Contains places j) → j ≢ at
  apart_from j stands none e = none (has_changed j (subst (Contains changed) (sym e) (known.changed_are.edited (stands.1 e))))

  kept_end : (j : ℕ) → Stands comes true at i j → ¬ (Contains places j) → IsSame (ends known.was j) (ends (present_slots rows moved) j)
  kept_end j stands none = known.changed_are.others j stands.0 (apart_from j stands none) (λ there. none (has_changed j there))

  chosen_at : (k : ℕ) → k < length places → rival_at low (map (rival_in rows moved low) places) k ≡ rival_in rows moved low (get_or places k 0)
  chosen_at k lt = chosen_is rows moved low places k (record { number = 0; label = low; until = low.max }) lt

  many : length (map (rival_in rows moved low) places) ≡ length places
  many = length-map places (rival_in rows moved low)

  -- a place among them, with where it stands there
  at_of : (p : ℕ) → Contains places p → (k : ℕ) × (k < length places) × (get_or places k 0 ≡ p)
  at_of p there = (there.0, there.1, get_or_default places there.0 0 p there.1 ∙ there.2)

  allows_there : (p : ℕ) → Contains places p → RivalAllows low (value_of slot.until) (rival_in rows moved low p)
  allows_there p there =
      let k = at_of p there in
      let e = many in
      subst (λ (q : ℕ). RivalAllows low (value_of slot.until) (rival_in rows moved low q)) k.2
      (subst (RivalAllows low (value_of slot.until)) (chosen_at k.0 k.1) (among.allowed k.0 (let lt : k.0 < length places = k.1 in omega arith)))

  -- ---- the blocker

  -- where the slot had a blocker, that sets the same limit now and stands among the places
  pub record Holds (b : ℕ) : Type 0 where
    pub stays : Contains places b
    pub first : (k : ℕ) → k < b → Stands comes false at i k → ¬ (IsLimit low (get_or (labels_in rows) k low) (ends known.was k) (value_of (present_at rows moved i).until))
    pub sets : IsLimit low (get_or (labels_in rows) b low) (ends (present_slots rows moved) b) (value_of (present_at rows moved i).until)

  holds_by : (n : ℕ) → IsFirstAt (row (number_at rows) (labels_in rows) known.was low) (Stands comes false at i) low (value_of (present_at rows moved i).until) n →
      (b : ℕ) → IsStaying rows changed at i n b → Contains places b → Holds b
  holds_by n first b staying there =
      let numbers = length-map rows (λ (r : Row). r.number) in
      let lt : first.place < i = first.is_standing.0 in
      let b_in : b < length rows = staying.is_place in
      let same : first.place ≡ b = same_place (numbers_in rows) first.place b 0 differ (omega arith) (omega arith) (first.its_number ∙ sym staying.its_number) in
      let end = known.changed_are.others b staying.before staying.other staying.unchanged in
      record {
        stays = there;
        first = λ k less. first.first k (let e : first.place ≡ b = same in omega arith);
        sets = same_law low (get_or (labels_in rows) b low) (ends known.was b) (ends (present_slots rows moved) b)
            (value_of (present_at rows moved i).until) (value_of (present_at rows moved i).until) end refl
            (subst (λ (p : ℕ). IsLimit low (get_or (labels_in rows) p low) (ends known.was p) (value_of (present_at rows moved i).until)) same first.sets);
      }

  blocked : (o : Option ℕ) → IsSetter (row (number_at rows) (labels_in rows) known.was low) (Stands comes false at i) low (value_of (present_at rows moved i).until) o →
      IfSome o (λ n. (b : ℕ) × IsStaying rows changed at i n b × Contains places b) → IsSame (value_of (present_at rows moved i).until) (value_of low.max) ⊎ ((b : ℕ) × Holds b)
  blocked None most has = inl most
  blocked (Some n) some has = inr (has.0, holds_by n some.1 has.0 has.1 has.2)

  holding : IsSame (value_of (present_at rows moved i).until) (value_of low.max) ⊎ ((b : ℕ) × Holds b)
  holding = blocked (present_at rows moved i).blocker own.setter has_blocker

  -- the new end is not above the old one
  not_above : IsAtMost (value_of slot.until) (value_of (present_at rows moved i).until)
  not_above =
      elim holding [
        | inl most ↦ at_most_trans (value_of slot.until) (value_of low.max) (value_of (present_at rows moved i).until) among.is_end.1
            (same_at_most (value_of low.max) (value_of (present_at rows moved i).until) most)
        | inr some ↦ some.1.sets.greatest (value_of slot.until) among.is_end (allows_there some.0 some.1.stays)
      ]

  allows : (j : ℕ) → Stands comes true at i j → RivalAllows low (value_of slot.until) (rival_in rows moved low j)
  allows j stands =
      elim (contained_or_not places j) [
        | inl there ↦ allows_there j there
        | inr none ↦
            smaller_law low (get_or (labels_in rows) j low) (ends known.was j) (ends (present_slots rows moved) j) (value_of slot.until) (value_of (present_at rows moved i).until)
            (same_at_most (ends (present_slots rows moved) j) (ends known.was j) (kept_end j stands none)) not_above (own.allowed j (stood j stands.0 (apart_from j stands none)))
      ]

  -- before the first of the places that sets the end no other label sets it
  none_before : (c : ℕ) → c < length places →
      ((m : ℕ) → m < c → ¬ (IsLimit low (get_or (labels_in rows) (get_or places m 0) low) (ends (present_slots rows moved) (get_or places m 0)) (value_of slot.until))) →
      IsLess (value_of slot.until) (value_of low.max) → (k : ℕ) → k < get_or places c 0 → Stands comes true at i k →
      ¬ (Contains places k) → ¬ (IsLimit low (get_or (labels_in rows) k low) (ends (present_slots rows moved) k) (value_of slot.until))
  none_before c c_in first below k less stands none limit =
      let end = kept_end k stands none in
      let apart = apart_from k stands none in
      let allowed = smaller_law low (get_or (labels_in rows) k low) (ends known.was k) (ends (present_slots rows moved) k)
      (value_of (present_at rows moved i).until) (value_of (present_at rows moved i).until)
      (same_at_most (ends (present_slots rows moved) k) (ends known.was k) end) (omega arith) (own.allowed k (stood k stands.0 apart)) in
      let under : IsAtMost (value_of (present_at rows moved i).until) (value_of slot.until) = limit.greatest (value_of (present_at rows moved i).until) own.is_end allowed in
      let same = same_both (value_of slot.until) (value_of (present_at rows moved i).until) not_above under in
      elim holding [
        | inl most ↦ less_is_apart (value_of (present_at rows moved i).until) (value_of low.max)
            (at_most_less (value_of (present_at rows moved i).until) (value_of slot.until) (value_of low.max) under below) most
        | inr some ↦
            let b : ℕ = some.0 in
            let m = at_of b some.1.stays in
            let sets = same_law low (get_or (labels_in rows) b low) (ends (present_slots rows moved) b) (ends (present_slots rows moved) b)
            (value_of (present_at rows moved i).until) (value_of slot.until) refl (sym same) some.1.sets in
            elim (cases_lt m.0 c) [
              | inl earlier_one ↦ first m.0 earlier_one (subst (λ (p : ℕ). IsLimit low (get_or (labels_in rows) p low) (ends (present_slots rows moved) p) (value_of slot.until)) (sym m.2) sets)
              | inr later ↦
                  let up_to : get_or places c 0 ≤ b = ascending_to c m.0 c_in m.1 later b m.2 in
                  some.1.first k (omega arith) (stood k stands.0 apart)
                  (same_law low (get_or (labels_in rows) k low) (ends (present_slots rows moved) k) (ends known.was k)
                  (value_of slot.until) (value_of (present_at rows moved i).until) (sym end) same limit)
            ]
      ]
    where
      ascending_to : (c m : ℕ) → c < length places → m < length places → c ≤ m → (b : ℕ) → get_or places m 0 ≡ b → get_or places c 0 ≤ b
      ascending_to c m c_in m_in le b e =
          elim (cases_eq c m) [
            | inl same ↦ (let f : get_or places c 0 ≡ get_or places m 0 = ap (λ k. get_or places k 0) same in omega arith)
            | inr apart ↦
                let strict : c < m = (let ne : c ≡ m → ⊥ = apart in omega arith) in
                let h = AllPairs-from_increasing places up c m 0 strict m_in in
                omega arith
          ]

  first_of : (n : ℕ) → IsLess (value_of slot.until) (value_of low.max) →
      IsFirstAt (rival_at low (map (rival_in rows moved low) places)) (λ k. k < length (map (rival_in rows moved low) places)) low (value_of slot.until) n →
      IsFirstAt (rival_in rows moved low) (Stands comes true at i) low (value_of slot.until) n
  first_of n below first =
      let e = many in
      let c : ℕ = first.place in
      let c_in : c < length places = (let lt = first.is_standing in omega arith) in
      let P : Rival → Type 0 = λ r. IsLimit low r.label (value_of r.until) (value_of slot.until) in
      let first_there : (m : ℕ) → m < c → ¬ (IsLimit low (get_or (labels_in rows) (get_or places m 0) low) (ends (present_slots rows moved) (get_or places m 0)) (value_of slot.until)) =
      λ m less limit. first.first m less (omega arith) (subst P (sym (chosen_at m (omega arith))) limit) in
      record {
        place = get_or places c 0;
        is_standing = stand (get_or places c 0) (c, c_in, get_or_default places c (get_or places c 0) 0 c_in);
        its_number = ap (λ (r : Rival). r.number) (sym (chosen_at c c_in)) ∙ first.its_number;
        sets = subst P (chosen_at c c_in) first.sets;
        first = λ k less stands limit.
            elim (contained_or_not places k) [
              | inl there ↦
                  let m = at_of k there in
                  let before = earlier places up m.0 c m.1 c_in (let f : get_or places m.0 0 ≡ k = m.2 in omega arith) in
                  first_there m.0 before (subst (λ (p : ℕ). IsLimit low (get_or (labels_in rows) p low) (ends (present_slots rows moved) p) (value_of slot.until)) (sym m.2) limit)
              | inr none ↦ none_before c c_in first_there below k less stands none limit
            ];
      }

  setter_of : (o : Option ℕ) → IsSetter (rival_at low (map (rival_in rows moved low) places)) (λ k. k < length (map (rival_in rows moved low) places)) low
      (value_of slot.until) o → IsSetter (rival_in rows moved low) (Stands comes true at i) low (value_of slot.until) o
  setter_of None most = most
  setter_of (Some n) some = (some.0, first_of n some.0 some.1)

  own_low : IsOwnSlot (rival_in rows moved low) (Stands comes true at i) low slot
  own_low = record {
    is_end = among.is_end;
    allowed = allows;
    greatest = λ e end all. among.greatest e end (λ k lt.
        let m = many in
        let k_in : k < length places = omega arith in
        subst (RivalAllows low e) (sym (chosen_at k k_in)) (all (get_or places k 0) (stand (get_or places k 0) (k, k_in, get_or_default places k (get_or places k 0) 0 k_in))));
    setter = setter_of slot.blocker among.setter;
  }

  -- the slot that these places leave the label is what all labels that stand before it leave
  pub kept_own : AreLeaving rows moved at comes i slot
  kept_own d =
      let n = length-labels rows in
      subst (λ (a : Label). IsOwnSlot (row (number_at rows) (labels_in rows) (present_slots rows moved) d) (Stands comes true at i) a slot) (sym (its d))
      (own_alike (rival_in rows moved low) (row (number_at rows) (labels_in rows) (present_slots rows moved) d) (Stands comes true at i)
      (λ j stands. let lt : j < i = stands.0 in ap (λ (a : Label). rival_of (number_at rows j) a (get_or (present_slots rows moved) j no_slot).until)
      (get_or_default (labels_in rows) j low d (omega arith)))
      low slot own_low)

-- ---- what a repair notes

module _ (at : ℕ) (comes : Bool) where
  -- at the start no label has another end, so only the edited one is noted, and only if it comes
  pub noted_start : (was : ℕ → Fraction) (changed : List ℕ) → ((p : ℕ) → Contains changed p ↔ ((p ≡ at) × (comes ≡ true))) → AreChanged was was at comes (at + 1) changed
  noted_start was changed just = record {
    stand = λ p there. let h = (just p).0 there in (let e : p ≡ at = h.0 in omega arith, λ e. h.1);
    edited = λ c. (just at).1 (refl, c);
    others = λ j lt apart none. refl;
  }

  -- one more label is done, which has its end of before: none is noted
  pub noted_still : (was is next : ℕ → Fraction) (i : ℕ) (changed : List ℕ) → AreChanged was is at comes i changed → ((k : ℕ) → k < i → IsSame (is k) (next k)) →
      IsSame (was i) (next i) → ((a b c : Fraction) → IsSame a b → IsSame b c → IsSame a c) → AreChanged was next at comes (i + 1) changed
  noted_still was is next i changed so_far same here trans = record {
    stand = λ p there. let h = so_far.stand p there in (let lt : p < i = h.0 in omega arith, h.1);
    edited = so_far.edited;
    others = λ j lt apart none. elim (cases_lt j i) [
      | inl less ↦ trans (was j) (is j) (next j) (so_far.others j less apart none) (same j less)
      | inr more ↦ let e : j ≡ i = omega arith in subst (λ (k : ℕ). IsSame (was k) (next k)) (sym e) here
    ];
  }

  -- several labels are passed over, which have their ends of before: none is noted
  pub noted_skip : (was is : ℕ → Fraction) (i until : ℕ) (changed : List ℕ) → i ≤ until → AreChanged was is at comes i changed →
      ((j : ℕ) → i ≤ j → IsSame (was j) (is j)) → AreChanged was is at comes until changed
  noted_skip was is i until changed le so_far same = record {
    stand = λ p there. let h = so_far.stand p there in (let lt : p < i = h.0 in omega arith, h.1);
    edited = so_far.edited;
    others = λ j lt apart none. elim (cases_lt j i) [
      | inl less ↦ so_far.others j less apart none
      | inr more ↦ same j more
    ];
  }

  -- one more label is done, whose end may be another one: its place is noted
  pub noted_more : (was is next : ℕ → Fraction) (i : ℕ) (changed more : List ℕ) → at < i → AreChanged was is at comes i changed →
      ((k : ℕ) → k < i → IsSame (is k) (next k)) → ((p : ℕ) → Contains more p ↔ (Contains changed p ⊎ (p ≡ i))) →
      ((a b c : Fraction) → IsSame a b → IsSame b c → IsSame a c) → AreChanged was next at comes (i + 1) more
  noted_more was is next i changed more from so_far same just trans = record {
    stand = λ p there. elim ((just p).0 there) [
      | inl old ↦ let h = so_far.stand p old in (let lt : p < i = h.0 in omega arith, h.1)
      | inr new ↦ (let e : p ≡ i = new in omega arith, λ f. absurd (let e : p ≡ i = new in let g : p ≡ at = f in omega arith))
    ];
    edited = λ c. (just at).1 (inl (so_far.edited c));
    others = λ j lt apart none. elim (cases_lt j i) [
      | inl less ↦ trans (was j) (is j) (next j) (so_far.others j less apart (λ there. none ((just j).1 (inl there)))) (same j less)
      | inr more' ↦ absurd (none ((just j).1 (inr (omega arith))))
    ];
  }

-- a slot that stays has the same end
pub end_kept : (slots next : List Slot) (k : ℕ) → get_or next k no_slot ≡ get_or slots k no_slot → IsSame (ends slots k) (ends next k)
end_kept slots next k e = subst (λ (s : Slot). IsSame (ends slots k) (value_of s.until)) (sym e) refl

-- where a slot is the old one, the old end equals whatever the present end equals
pub end_from : (slots old : List Slot) (k : ℕ) (f : Fraction) → get_or slots k no_slot ≡ get_or old k no_slot → IsSame (ends slots k) f → IsSame (ends old k) f
end_from slots old k f e same = subst (λ (s : Slot). IsSame (value_of s.until) f) e same

-- a list with one more place at its end has that place and those that it had
pub pushed_one : (xs : List ℕ) (x : ℕ) (ys : List ℕ) → ys ≡ xs ++ x ∷ [] → (p : ℕ) → Contains ys p ↔ (Contains xs p ⊎ (p ≡ x))
pushed_one xs x ys is p = (
  λ there. elim (Contains-push_cases xs x p (subst (λ (zs : List ℕ). Contains zs p) is there)) [
    | inl old ↦ inl old
    | inr new ↦ inr (sym new)
  ],
  λ h. subst (λ (zs : List ℕ). Contains zs p) (sym is) (elim h [
    | inl old ↦ Contains-append_left xs (x ∷ []) p old
    | inr new ↦ subst (Contains (xs ++ x ∷ [])) (sym new) (Contains-push xs x)
  ]),
)

-- ---- the slot that some places leave

some_there : (rows : List Row) (changed places : List ℕ) (at i : ℕ) (o q : Option ℕ) → ((p : ℕ) → o ≡ Some p → Contains places p) →
    IfSome q (λ n. (b : ℕ) × IsStaying rows changed at i n b × (o ≡ Some b)) → IfSome q (λ n. (b : ℕ) × IsStaying rows changed at i n b × Contains places b)
some_there rows changed places at i o None there h = tt
some_there rows changed places at i o (Some n) there h = (h.0, h.1, there h.0 h.2)

-- the slot that the changed labels and the blocker, if it is given, leave is what all labels that stand before leave
pub left_own : SmallerLaw → SameLaw → (rows : List Row) (moved : List Moved) (at : ℕ) (comes : Bool) (i : ℕ) (changed : List ℕ) (o : Option ℕ) (slot : Slot) →
    HaveOwnNumbers rows → i < length rows → IsOwnBefore rows moved at comes changed i → ((b : ℕ) → o ≡ Some b → Stands comes true at i b) →
    IfSome (present_at rows moved i).blocker (λ n. (b : ℕ) × IsStaying rows changed at i n b × (o ≡ Some b)) →
    IsLeftBy rows moved i (λ p. Contains changed p ⊎ (o ≡ Some p)) slot → AreLeaving rows moved at comes i slot
left_own smaller_law same_law rows moved at comes i changed o slot differ within known stays has left =
    kept_own smaller_law same_law rows moved left.low at comes i changed left.places slot differ within left.its known
    (λ p there. elim ((left.same p).0 there) [
      | inl old ↦ known.changed_are.stand p old
      | inr blocker ↦ stays p blocker
    ])
    (λ p there. (left.same p).1 (inl there))
    (some_there rows changed left.places at i o (present_at rows moved i).blocker (λ p e. (left.same p).1 (inr e)) has)
    left.ascending left.among

-- so it is for a label without a blocker, among the changed labels alone
pub left_none : SmallerLaw → SameLaw → (rows : List Row) (moved : List Moved) (at : ℕ) (comes : Bool) (i : ℕ) (changed : List ℕ) (slot : Slot) →
    HaveOwnNumbers rows → i < length rows → IsOwnBefore rows moved at comes changed i → (present_at rows moved i).blocker ≡ None →
    IsLeftBy rows moved i (λ p. Contains changed p ⊎ (None ≡ Some p)) slot → AreLeaving rows moved at comes i slot
left_none smaller_law same_law rows moved at comes i changed slot differ within known none left =
    left_own smaller_law same_law rows moved at comes i changed None slot differ within known
    (λ b e. absurd (let f : ◌≡◌ {A = Option ℕ} None (Some b) = e in cc))
    (subst (λ (q : Option ℕ). IfSome q (λ n. (b : ℕ) × IsStaying rows changed at i n b × (None ≡ Some b))) (sym none) tt) left

-- so it is for a label whose blocker stays, among the changed labels and the blocker
pub left_some : SmallerLaw → SameLaw → (rows : List Row) (moved : List Moved) (at : ℕ) (comes : Bool) (i : ℕ) (changed : List ℕ) (n b : ℕ) (slot : Slot) →
    HaveOwnNumbers rows → i < length rows → IsOwnBefore rows moved at comes changed i → (present_at rows moved i).blocker ≡ Some n →
    IsStaying rows changed at i n b → IsLeftBy rows moved i (λ p. Contains changed p ⊎ (Some b ≡ Some p)) slot → AreLeaving rows moved at comes i slot
left_some smaller_law same_law rows moved at comes i changed n b slot differ within known some staying left =
    left_own smaller_law same_law rows moved at comes i changed (Some b) slot differ within known
    (λ p e. let same : b ≡ p = cc in (let lt : b < i = staying.before in omega arith, λ f. absurd (staying.other (same ∙ f))))
    (subst (λ (q : Option ℕ). IfSome q (λ n. (b' : ℕ) × IsStaying rows changed at i n b' × (Some b ≡ Some b'))) (sym some) (b, staying, refl)) left

-- ---- given places

-- where no blocker is given, the places are those of the changed labels
pub given_none : (xs ys : List ℕ) → ys ≡ xs → (p : ℕ) → Contains ys p ↔ (Contains xs p ⊎ (None ≡ Some p))
given_none xs ys same p = (
  λ there. inl (subst (λ (zs : List ℕ). Contains zs p) same there),
  λ h. elim h [
    | inl there ↦ subst (λ (zs : List ℕ). Contains zs p) (sym same) there
    | inr e ↦ absurd (let f : ◌≡◌ {A = Option ℕ} None (Some p) = e in cc)
  ],
)

-- where the place of a blocker is given, the places are those of the changed labels and that place
pub given_one : (xs ys zs : List ℕ) (b : ℕ) → ys ≡ xs → zs ≡ ys ++ b ∷ [] → (p : ℕ) → Contains zs p ↔ (Contains xs p ⊎ (Some b ≡ Some p))
given_one xs ys zs b same pushed p =
    let more = pushed_one xs b zs (pushed ∙ ap (λ (l : List ℕ). l ++ b ∷ []) same) p in (
      λ there. elim (more.0 there) [ inl old ↦ inl old | inr new ↦ inr (ap Some (sym new)) ],
      λ h. elim h [ inl old ↦ more.1 (inl old) | inr e ↦ more.1 (inr (let f : b ≡ p = cc in sym f)) ],
    )

-- the places of changed labels and of a given blocker are places of the list
pub given_within : (rows : List Row) (changed : List ℕ) (o : Option ℕ) (places : List ℕ) → ((p : ℕ) → Contains places p ↔ (Contains changed p ⊎ (o ≡ Some p))) →
    All (λ p. p < length rows) changed → IfSome o (λ b. b < length rows) → All (λ p. p < length rows) places
given_within rows changed o places same within blocker k d lt =
    let p : ℕ = get_or places k d in
    elim ((same p).0 (k, lt, get_or_default places k p d lt)) [
      | inl old ↦ (let h = within old.0 p old.1 in let e : get_or changed old.0 p ≡ p = old.2 in omega arith)
      | inr e ↦ subst (λ (q : Option ℕ). IfSome q (λ b. b < length rows)) e blocker
    ]

-- the places of changed labels are places of the list
pub changed_within : (rows : List Row) (moved : List Moved) (at : ℕ) (comes : Bool) (changed : List ℕ) (i : ℕ) →
    i < length rows → IsOwnBefore rows moved at comes changed i → All (λ p. p < length rows) changed
changed_within rows moved at comes changed i within known k d lt =
    let p : ℕ = get_or changed k d in
    let s = known.changed_are.stand p (k, lt, get_or_default changed k p d lt) in
    let h : p < i = s.0 in
    omega arith
