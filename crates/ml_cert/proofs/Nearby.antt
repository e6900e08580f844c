-- What is due among labels that were seen, one more of them after another.
use Rattle.std.proofs.Common.{◌≡◌, ℕ, ◌<◌, List, length, get_or, ◌⊎◌, inl, inr, refl, sym, subst, ap, arith, Option, Some, None}
use Rattle.std.specs.Prelude.{MatchOption}
use Rattle.std.proofs.lemmas.List.{get_or_default}
use Rattle.ml_ratio.specs.Fraction.{Fraction, value_of, IsLess, IsSame}
use Rattle.ml_cone.specs.Choice.{Choice, IsLimit, Blocks}
use Rattle.ml_cone.specs.Slots.{ends, no_slot}
use Rattle.ml_cone.specs.Sound.{AllowsAt}
use Rattle.ml_cone.specs.declared.label.Label.{Label}
use Rattle.ml_cone.specs.declared.slot.Slot.{Slot}
use Rattle.ml_conflict.specs.Begin.{SetsNoneUpTo}
use Rattle.ml_cert.specs.Judged.{IsDue}
use Rattle.ml_cert.specs.Known.{Known}
use Rattle.ml_cert.specs.Near.{IsDueAmong, IsDueWith, IsSooner, IsSoonest}
use Rattle.ml_cert.specs.declared.near.Asked.{Asked}
use Rattle.ml_cert.proofs.Dues.{ArePair, aside_of, blocker_of}

-- ---- the label that is asked, and one before it

-- the label that is asked about and one before it, with their ends, are a pair of the choice
pub asked_pair : (asked : Asked) (j : ℕ) → j < asked.place → ArePair asked.labels.now (ends asked.slots.now) asked.place j asked.low.now
    (get_or asked.labels.now j asked.low.now) (value_of asked.until) (ends asked.slots.now j)
asked_pair asked j lt =
    let there = asked.there in
    record {
      earlier = lt;
      its_label = asked.its_label;
      other_label = λ d. get_or_default asked.labels.now j d asked.low.now (omega arith);
      its_end = ap value_of asked.its_end;
      other_end = refl;
      good = asked.good;
    }

-- it sets no limit up to the end
pub aside_there : Known → (asked : Asked) (j : ℕ) → j < asked.place → SetsNoneUpTo asked.low.now (get_or asked.labels.now j asked.low.now) (ends asked.slots.now j) (value_of asked.until) →
    AllowsAt asked.labels.now (ends asked.slots.now) j asked.place × ¬ (Blocks asked.labels.now (ends asked.slots.now) j asked.place)
aside_there known asked j lt none = aside_of known (asked_pair asked j lt) none

-- its limit is the end
pub blocker_there : Known → (asked : Asked) (j : ℕ) → j < asked.place → {f : Fraction} →
    IsLimit asked.low.now (get_or asked.labels.now j asked.low.now) (ends asked.slots.now j) f → IsLess f (value_of asked.low.now.max) →
    IsSame f (value_of asked.until) → AllowsAt asked.labels.now (ends asked.slots.now) j asked.place × Blocks asked.labels.now (ends asked.slots.now) j asked.place
blocker_there known asked j lt limit below same = blocker_of known (asked_pair asked j lt) limit below same

-- what a program reads of the label at a place and of its slot
module _ (low : Label) (labels : List Label) (slots : List Slot) (place : ℕ) (a : Label) (s : Slot) (in' : place < length labels) (lt : place < length slots) where
  read_label : get_or labels place a ≡ get_or labels place low
  read_label = get_or_default labels place a low in'

  read_slot : get_or slots place s ≡ get_or slots place no_slot
  read_slot = get_or_default slots place s no_slot lt

  -- a label that sets no limit up to the bound, as it and its slot are read, sets none by its end in the choice
  pub none_read : (bound : Fraction) → SetsNoneUpTo low (get_or labels place a) (value_of (get_or slots place s).until) bound → SetsNoneUpTo low (get_or labels place low) (ends slots place) bound
  none_read bound none =
      subst (λ (b : Label). SetsNoneUpTo low b (value_of (get_or slots place no_slot).until) bound) read_label
      (subst (λ (t : Slot). SetsNoneUpTo low (get_or labels place a) (value_of t.until) bound) read_slot none)

  -- the limit that a label sets, as it and its slot are read, is the one that it sets by its end in the choice
  pub limit_read : (f : Fraction) → IsLimit low (get_or labels place a) (value_of (get_or slots place s).until) f → IsLimit low (get_or labels place low) (ends slots place) f
  limit_read f limit =
      subst (λ (b : Label). IsLimit low b (value_of (get_or slots place no_slot).until) f) read_label
      (subst (λ (t : Slot). IsLimit low (get_or labels place a) (value_of t.until) f) read_slot limit)

-- ---- more labels

-- of the labels before i that were seen the first that blocks it, if any does
abbrev IsFirstOf : List Label → Choice → ℕ → (ℕ → Type 0) → Option ℕ → Type 0
IsFirstOf labels c i seen due = MatchOption due ((k : ℕ) → seen k → k < i → ¬ (Blocks labels c k i)) (λ m. (m < i) × Blocks labels c m i × ((k : ℕ) → seen k → k < m → ¬ (Blocks labels c k i)))

module _ (labels : List Label) (c : Choice) (i : ℕ) where
  -- nothing was seen
  pub due_of_none : (seen : ℕ → Type 0) → ((j : ℕ) → seen j → ⊥) → IsDueAmong labels c i seen None
  due_of_none seen nothing = record {
    allowed = λ k saw lt. absurd (nothing k saw);
    first = λ k saw lt. absurd (nothing k saw);
  }

  -- labels that allow the end and do not block it were not seen
  pub due_wider : (seen all : ℕ → Type 0) (due : Option ℕ) → IsDueAmong labels c i seen due →
      ((k : ℕ) → all k → k < i → seen k ⊎ (AllowsAt labels c k i × ¬ (Blocks labels c k i))) → IsDueAmong labels c i all due
  due_wider seen all due among either = record {
    allowed = λ k saw lt. elim (either k saw lt) [ inl old ↦ among.allowed k old lt | inr aside ↦ aside.0 ];
    first = first due among.first;
  }
    where
      first : (due : Option ℕ) → MatchOption due ((k : ℕ) → seen k → k < i → ¬ (Blocks labels c k i)) (λ m. (m < i) × Blocks labels c m i × ((k : ℕ) → seen k → k < m → ¬ (Blocks labels c k i))) →
          MatchOption due ((k : ℕ) → all k → k < i → ¬ (Blocks labels c k i)) (λ m. (m < i) × Blocks labels c m i × ((k : ℕ) → all k → k < m → ¬ (Blocks labels c k i)))
      first None h = λ k saw lt. elim (either k saw lt) [ inl old ↦ h k old lt | inr aside ↦ aside.1 ]
      first (Some m) (lt_m, blocks, h) = (lt_m, blocks, λ k saw lt. elim (either k saw (omega arith)) [ inl old ↦ h k old lt | inr aside ↦ aside.1 ])

  -- the label at j was seen too
  pub due_with : (seen all : ℕ → Type 0) (j : ℕ) (due next : Option ℕ) → IsDueAmong labels c i seen due →
      IsDueWith labels c i j due next → ((k : ℕ) → all k → seen k ⊎ (k ≡ j)) → IsDueAmong labels c i all next
  due_with seen all j due next among more either = record {
    allowed = λ k saw lt. elim (either k saw) [ inl old ↦ among.allowed k old lt | inr same ↦ subst (λ (m : ℕ). AllowsAt labels c m i) (sym same) (more.allowed (omega arith)) ];
    first = elim more.first [
      | inl kept ↦ subst (λ (o : Option ℕ). MatchOption o ((k : ℕ) → all k → k < i → ¬ (Blocks labels c k i))
          (λ m. (m < i) × Blocks labels c m i × ((k : ℕ) → all k → k < m → ¬ (Blocks labels c k i)))) (sym kept.1) (same_due due kept.0 among.first)
      | inr new ↦
          let n : ℕ = new.2.0 in
          subst (λ (o : Option ℕ). MatchOption o ((k : ℕ) → all k → k < i → ¬ (Blocks labels c k i)) (λ m. (m < i) × Blocks labels c m i × ((k : ℕ) → all k → k < m → ¬ (Blocks labels c k i))))
          (sym new.2.1) (sooner_due n due new.0 new.1 among.first new.2.2)
    ];
  }
    where
      clear : (k : ℕ) → k ≡ j → (j < i → ¬ (Blocks labels c j i)) → k < i → ¬ (Blocks labels c k i)
      clear k same none lt = subst (λ (m : ℕ). ¬ (Blocks labels c m i)) (sym same) (none (omega arith))

      same_due : (due : Option ℕ) → (j < i → ¬ (Blocks labels c j i)) → MatchOption due ((k : ℕ) → seen k → k < i → ¬ (Blocks labels c k i))
          (λ m. (m < i) × Blocks labels c m i × ((k : ℕ) → seen k → k < m → ¬ (Blocks labels c k i))) →
          MatchOption due ((k : ℕ) → all k → k < i → ¬ (Blocks labels c k i)) (λ m. (m < i) × Blocks labels c m i × ((k : ℕ) → all k → k < m → ¬ (Blocks labels c k i)))
      same_due None none h = λ k saw lt. elim (either k saw) [ inl old ↦ h k old lt | inr same ↦ clear k same none lt ]
      same_due (Some m) none (lt_m, blocks, h) = (lt_m, blocks, λ k saw lt. elim (either k saw) [ inl old ↦ h k old lt | inr same ↦ clear k same none (omega arith) ])

      sooner_due : (n : ℕ) (due : Option ℕ) → j < i → Blocks labels c j i → MatchOption due ((k : ℕ) → seen k → k < i → ¬ (Blocks labels c k i))
          (λ m. (m < i) × Blocks labels c m i × ((k : ℕ) → seen k → k < m → ¬ (Blocks labels c k i))) →
          IsSooner due j n → (n < i) × Blocks labels c n i × ((k : ℕ) → all k → k < n → ¬ (Blocks labels c k i))
      sooner_due n None lt_j blocks h same = (
        omega arith,
        subst (λ (m : ℕ). Blocks labels c m i) (sym same) blocks,
        λ k saw lt. elim (either k saw) [ inl old ↦ h k old (omega arith) | inr here ↦ absurd (omega arith) ],
      )
      sooner_due n (Some m) lt_j blocks (lt_m, blocks_m, h) (le_m, le_j, one) = (
        omega arith,
        elim one [ inl first ↦ subst (λ (q : ℕ). Blocks labels c q i) (sym first) blocks_m | inr second ↦ subst (λ (q : ℕ). Blocks labels c q i) (sym second) blocks ],
        λ k saw lt. elim (either k saw) [ inl old ↦ h k old (omega arith) | inr here ↦ absurd (omega arith) ],
      )

  -- some labels and others were seen
  pub due_both : (seen others all : ℕ → Type 0) (due other next : Option ℕ) → IsDueAmong labels c i seen due →
      IsDueAmong labels c i others other → IsSoonest due other next → ((k : ℕ) → all k → seen k ⊎ others k) → IsDueAmong labels c i all next
  due_both seen others all due other next one two soonest either = record {
    allowed = λ k saw lt. elim (either k saw) [ inl old ↦ one.allowed k old lt | inr new ↦ two.allowed k new lt ];
    first = first due other one.first two.first soonest;
  }
    where
      both : (n : ℕ) (due : Option ℕ) (j : ℕ) → IsFirstOf labels c i seen due → (j < i) × Blocks labels c j i × ((k : ℕ) → others k → k < j → ¬ (Blocks labels c k i)) →
          IsSooner due j n → (n < i) × Blocks labels c n i × ((k : ℕ) → all k → k < n → ¬ (Blocks labels c k i))
      both n None j h (lt_j, blocks, g) same = (
        omega arith,
        subst (λ (m : ℕ). Blocks labels c m i) (sym same) blocks,
        λ k saw lt. elim (either k saw) [ inl old ↦ h k old (omega arith) | inr new ↦ g k new (omega arith) ],
      )
      both n (Some m) j (lt_m, blocks_m, h) (lt_j, blocks, g) (le_m, le_j, which) = (
        omega arith,
        elim which [ inl first ↦ subst (λ (q : ℕ). Blocks labels c q i) (sym first) blocks_m | inr second ↦ subst (λ (q : ℕ). Blocks labels c q i) (sym second) blocks ],
        λ k saw lt. elim (either k saw) [ inl old ↦ h k old (omega arith) | inr new ↦ g k new (omega arith) ],
      )

      kept : (due : Option ℕ) → IsFirstOf labels c i seen due → ((k : ℕ) → others k → k < i → ¬ (Blocks labels c k i)) → IsFirstOf labels c i all due
      kept None h g = λ k saw lt. elim (either k saw) [ inl old ↦ h k old lt | inr new ↦ g k new lt ]
      kept (Some m) (lt_m, blocks, h) g = (lt_m, blocks, λ k saw lt. elim (either k saw) [ inl old ↦ h k old lt | inr new ↦ g k new (omega arith) ])

      first : (due other : Option ℕ) → IsFirstOf labels c i seen due → IsFirstOf labels c i others other → IsSoonest due other next → IsFirstOf labels c i all next
      first due None h g same = subst (IsFirstOf labels c i all) (sym same) (kept due h g)
      first due (Some j) h g (n, is, sooner) = subst (IsFirstOf labels c i all) (sym is) (both n due j h g sooner)

  -- all labels before were seen
  pub due_of_all : (due : Option ℕ) → IsDueAmong labels c i (λ j. j < i) due → IsDue labels c i i due
  due_of_all due among = record {
    allowed = λ k lt. among.allowed k lt lt;
    first = first due among.first;
  }
    where
      first : (due : Option ℕ) → MatchOption due ((k : ℕ) → k < i → k < i → ¬ (Blocks labels c k i)) (λ m. (m < i) × Blocks labels c m i × ((k : ℕ) → k < i → k < m → ¬ (Blocks labels c k i))) →
          MatchOption due ((k : ℕ) → k < i → ¬ (Blocks labels c k i)) (λ m. Blocks labels c m i × ((k : ℕ) → k < m → ¬ (Blocks labels c k i)))
      first None h = λ k lt. h k lt lt
      first (Some m) (lt_m, blocks, h) = (blocks, λ k lt. h k (omega arith) lt)
