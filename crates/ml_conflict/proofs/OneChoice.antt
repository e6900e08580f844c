-- Labels have one list of slots that is the longest choice with its blockers.
use Rattle.std.proofs.Common.{◌≡◌, ℕ, ◌<◌, List, length, get_or, Option, Some, None, inl, inr, refl, sym, ap, ◌∙◌, arith}
use Rattle.std.proofs.lemmas.Bool.{cases_order}
use Rattle.std.proofs.lemmas.List.{same_lists, get_or_default}
use Rattle.ml_ratio.specs.Fraction.{value_of, IsSame}
use Rattle.ml_ratio.proofs.lemmas.Fractions.{at_most_less, less_at_most}
use Rattle.ml_ratio.proofs.lemmas.Intervals.{equal_ratio}
use Rattle.ml_ratio.proofs.lemmas.Lists.{pick}
use Rattle.ml_cone.specs.Choice.{Choice, CoversFrom, Blocks}
use Rattle.ml_cone.specs.Slots.{IsBlockerBy, AreSlots, ends, no_slot}
use Rattle.ml_cone.specs.declared.label.Label.{Label}
use Rattle.ml_cone.specs.declared.slot.Slot.{Slot}
use Rattle.ml_conflict.proofs.Greedy.{longest_unique}

-- a label is blocked alike under choices with the same two ends
blocks_alike : (labels : List Label) (b c : Choice) (j i : ℕ) → IsSame (b j) (c j) → IsSame (b i) (c i) → Blocks labels b j i → Blocks labels c j i
unfolding CoversFrom
blocks_alike labels b c j i at_j at_i blocks d =
    let one = blocks d in
    let top = value_of (get_or labels i d).max in
    let w = one.2 in (
      one.0,
      at_most_less (c i) (b i) top (omega arith) one.1,
      (
        w.0,
        at_most_less (c i) (b i) w.0 (omega arith) w.1,
        λ s above below.
            let both = w.2 s (at_most_less (b i) (c i) s (omega arith) above) below in
            ((both.0.0, less_at_most s (b j) (c j) both.0.1 (omega arith)), both.1),
      ),
    )

module _ (number : ℕ → ℕ) (labels : List Label) (b c : Choice) (same : (k : ℕ) → k < length labels → IsSame (b k) (c k)) (i : ℕ) (lt : i < length labels) where
  blocks_there : (j : ℕ) → Blocks labels b j i → Blocks labels c j i
  blocks_there j blocks =
      let before = (blocks (pick labels i lt)).0 in
      blocks_alike labels b c j i (same j (omega arith)) (same i lt) blocks

  blocks_back : (j : ℕ) → Blocks labels c j i → Blocks labels b j i
  blocks_back j blocks =
      let before = (blocks (pick labels i lt)).0 in
      let at_j = same j (omega arith) in
      let at_i = same i lt in
      blocks_alike labels c b j i (omega arith) (omega arith) blocks

  not_at_maximum : (e : Choice) (j : ℕ) → ((d : Label) → IsSame (e i) (value_of (get_or labels i d).max)) → Blocks labels e j i → ⊥
  not_at_maximum e j top blocks =
      let d = pick labels i lt in
      let less = (blocks d).1 in
      let same' = top d in
      omega arith

  -- under choices with the same ends a label has one blocker
  pub one_blocker : (x y : Option ℕ) → IsBlockerBy number labels b i x → IsBlockerBy number labels c i y → x ≡ y
  one_blocker None None v w = refl
  one_blocker None (Some m) v (k, is, blocks, first) = absurd (not_at_maximum b k v (blocks_back k blocks))
  one_blocker (Some n) None (j, is, blocks, first) w = absurd (not_at_maximum c j w (blocks_there j blocks))
  one_blocker (Some n) (Some m) (j, is, blocks, first) (k, are, others, before) =
      elim (cases_order j k) [
        | inl equal ↦ ap Some (sym is ∙ ap number equal ∙ are)
        | inr (inl less) ↦ absurd (before j less (blocks_there j blocks))
        | inr (inr more) ↦ absurd (first k more (blocks_back k others))
      ]

-- two lists of slots that are the longest choice with its blockers have the same ends and the same blockers
pub one_choice : (number : ℕ → ℕ) (labels : List Label) (slots others : List Slot) → AreSlots number labels slots → AreSlots number labels others → slots ≡ others
one_choice number labels slots others v w =
    let n = v.one_slot in
    let m = w.one_slot in
    let same : (k : ℕ) → k < length labels → IsSame (ends slots k) (ends others k) = longest_unique labels (ends slots) (ends others) v.longest w.longest in
    same_lists slots others (n ∙ sym m) (λ k d lt.
    let inside : k < length labels = omega arith in
    let until = equal_ratio (get_or slots k no_slot).until (get_or others k no_slot).until (same k inside) in
    let blocker = one_blocker number labels (ends slots) (ends others) same k inside (get_or slots k no_slot).blocker (get_or others k no_slot).blocker (v.blockers k inside) (w.blockers k inside) in
    let slot : get_or slots k no_slot ≡ get_or others k no_slot = λ t. record { until = until t; blocker = blocker t } in
    get_or_default slots k d no_slot lt ∙ slot ∙ get_or_default others k no_slot d (omega arith))
