-- Own slots are the longest choice with its blockers, and the other way round.
use Rattle.std.proofs.Common.{ℕ, ◌<◌, arith, List, length, get_or, Option, Some, None}
use Rattle.std.specs.Prelude.{MatchOption}
use Rattle.std.proofs.lemmas.List.{get_or_default}
use Rattle.ml_ratio.specs.Fraction.{value_of, IsLess, IsSame}
use Rattle.ml_cone.specs.Choice.{IsOwnEnd, IsLimit}
use Rattle.ml_cone.specs.declared.label.Label.{Label}
use Rattle.ml_cone.specs.declared.slot.Slot.{Slot}
use Rattle.ml_cone.specs.Slots.{ends, no_slot, row, IsFirstAt, HaveOwnSlots, AreSlots, IsBlockerBy}
use Rattle.ml_conflict.proofs.Own.{own_longest, longest_own, blocks_limit, limit_blocks}
use Rattle.ml_ratio.proofs.lemmas.Lists.{pick}

module _ (number : ℕ → ℕ) (labels : List Label) (slots : List Slot) where
  module _ (all : HaveOwnSlots number labels slots) where
    own_end : (i : ℕ) → i < length labels → IsOwnEnd labels (ends slots) i
    own_end i in' =
        record {
          is_end = λ d. (all.own d i in').is_end;
          allowed = λ j d lt. (all.own d i in').allowed j lt;
          greatest = λ e e_end h. let d : Label = pick labels i in' in (all.own d i in').greatest e (e_end d) (λ j lt. h j d lt);
        }

    blocker_of : (i : ℕ) → i < length labels → (b : Option ℕ) → ((d : Label) → MatchOption b (IsSame (ends slots i) (value_of (get_or labels i d).max))
        (λ n. IsLess (ends slots i) (value_of (get_or labels i d).max) × IsFirstAt (row number labels slots d) (λ j. j < i) (get_or labels i d) (ends slots i) n)) →
        IsBlockerBy number labels (ends slots) i b
    blocker_of i in' None h = h
    blocker_of i in' (Some n) h =
        let a : Label = pick labels i in' in
        let t = (h a).1 in
        let j : ℕ = t.place in
        let lt : j < i = t.is_standing in
        let limit : (d : Label) → IsLimit (get_or labels i d) (get_or labels j d) (ends slots j) (ends slots i) =
        (λ (d : Label). let j_in : j < length labels = omega arith in rw (get_or_default labels i d a in', get_or_default labels j d a j_in) t.sets) in (
          j,
          t.its_number,
          limit_blocks labels (ends slots) j i lt (λ d. (h d).0) limit,
          λ k less blocks.
              let l : k < i = omega arith in
              t.first k less l (blocks_limit labels (ends slots) k i a ((own_end i in').is_end a) ((own_end i in').allowed k a l) blocks),
        )

    -- so they are the longest choice with its blockers
    pub slots_of_own : AreSlots number labels slots
    slots_of_own =
        record {
          one_slot = all.one_slot;
          longest = own_longest labels (ends slots) own_end;
          blockers = λ i in'. blocker_of i in' (get_or slots i no_slot).blocker (λ d. (all.own d i in').setter);
        }

  -- and the other way round
  module _ (are : AreSlots number labels slots) where
    setter_of : (d : Label) (i : ℕ) → i < length labels → (b : Option ℕ) → IsBlockerBy number labels (ends slots) i b →
        MatchOption b (IsSame (ends slots i) (value_of (get_or labels i d).max))
        (λ n. IsLess (ends slots i) (value_of (get_or labels i d).max) × IsFirstAt (row number labels slots d) (λ j. j < i) (get_or labels i d) (ends slots i) n)
    setter_of d i in' None h = h d
    setter_of d i in' (Some n) h =
        let own = longest_own labels (ends slots) are.longest i in' in
        let below : (d : Label) → IsLess (ends slots i) (value_of (get_or labels i d).max) = (λ (d : Label). (h.2 d).1) in
        let lt : h.0 < i = (h.2 d).0 in (
          below d,
          record {
            place = h.0;
            is_standing = lt;
            its_number = h.1;
            sets = blocks_limit labels (ends slots) h.0 i d (own.is_end d) (own.allowed h.0 d lt) h.2;
            first = λ k less l limit.
                h.3 k less (limit_blocks labels (ends slots) k i l below
                (λ e. let k_in : k < length labels = omega arith in rw (get_or_default labels i e d in', get_or_default labels k e d k_in) limit));
          },
        )

    -- in the longest choice with its blockers each label has its own slot among those before it
    pub own_of_slots : HaveOwnSlots number labels slots
    own_of_slots =
        record {
          one_slot = are.one_slot;
          own = λ d i in'.
              let own = longest_own labels (ends slots) are.longest i in' in
              record {
                is_end = own.is_end d;
                allowed = λ j lt. own.allowed j d lt;
                greatest = λ e e_end h.
                    own.greatest e (λ a. rw (get_or_default labels i a d in') e_end)
                    (λ j a lt. let j_in : j < length labels = omega arith in rw (get_or_default labels i a d in', get_or_default labels j a d j_in) (h j lt));
                setter = setter_of d i in' (get_or slots i no_slot).blocker (are.blockers i in');
              };
        }
