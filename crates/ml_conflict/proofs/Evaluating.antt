-- The steps of the loop that evaluates a label among its rivals.
use Rattle.std.proofs.Common.{◌≡◌, ℕ, ◌+◌, ◌<◌, List, length, get_or, arith, inl, inr, sym, Option, Some, None}
use Rattle.std.proofs.lemmas.Bool.{cases_lt}
use Rattle.ml_ratio.specs.Fraction.{Fraction, value_of, IsLess, IsAtMost, IsSame}
use Rattle.ml_ratio.specs.declared.ratio.Ratio.{Ratio}
use Rattle.ml_ratio.proofs.lemmas.Fractions.{at_most_trans, at_most_less, less_at_most, same_trans}
use Rattle.ml_cone.specs.Choice.{IsEnd, Allows}
use Rattle.ml_cone.specs.Slots.{Rival, RivalAllows, IsSetter, IsSlotAmong, rival_at}
use Rattle.ml_cone.specs.declared.label.Label.{Label}
use Rattle.ml_cone.specs.declared.slot.Slot.{Slot}
use Rattle.ml_conflict.specs.Begin.{IsBlock}
use Rattle.ml_conflict.proofs.Greedy.{Allows-smaller}
use Rattle.ml_conflict.proofs.Limits.{limit_same}

-- what is known after the first k rivals: u is the greatest end that they allow, set by the one with the number b
pub record Evaluated (low : Label) (rivals : List Rival) (k : ℕ) (u : Fraction) (b : Option ℕ) : Type 0 where
  pub is_end : IsEnd low u
  pub allowed : (j : ℕ) → j < k → RivalAllows low u (rival_at low rivals j)
  pub setter : IsSetter (rival_at low rivals) (λ j. j < k) low u b

module _ (low : Label) (rivals : List Rival) where
  -- before the first rival the label may have its maximum, which no rival sets
  pub evaluated_none : (u : Fraction) → IsSame u (value_of low.max) → Evaluated low rivals 0 u None
  evaluated_none u same =
      let range : IsLess (value_of low.min) (value_of low.max) = low.range in
      let from : IsAtMost (value_of low.min) (value_of low.max) = omega arith in
      record { is_end = (at_most_trans (value_of low.min) (value_of low.max) u from (omega arith), omega arith); allowed = λ j h. absurd (omega arith); setter = same }

  -- the rivals that stood before still stand
  setter_more : (k : ℕ) (u : Fraction) (b : Option ℕ) → IsSetter (rival_at low rivals) (λ j. j < k) low u b → IsSetter (rival_at low rivals) (λ j. j < k + 1) low u b
  setter_more k u None h = h
  setter_more k u (Some n) h =
      let at = h.1 in
      let stands : at.place < k = at.is_standing in
      (h.0, record { place = at.place; is_standing = omega arith; its_number = at.its_number; sets = at.sets; first = λ m less _. at.first m less (omega arith) })

  module _ (k : ℕ) (u : Fraction) (b : Option ℕ) (a : Label) (w : Ratio) (its_label : (d : Rival) → a ≡ (get_or rivals k d).label)
      (its_end : (d : Rival) → w ≡ (get_or rivals k d).until) (so_far : Evaluated low rivals k u b) where
    allows_here : (e : Fraction) → Allows low a (value_of w) e → RivalAllows low e (rival_at low rivals k)
    allows_here e h =
        let d : Rival = record { number = 0; label = low; until = low.max } in
        rw (← its_label d, ← its_end d) h

    allowed_more : (e : Fraction) → IsAtMost e u → Allows low a (value_of w) e → (j : ℕ) → j < k + 1 → RivalAllows low e (rival_at low rivals j)
    allowed_more e le here j lt =
        elim (cases_lt j k) [
          | inl less ↦ Allows-smaller low (rival_at low rivals j).label (value_of (rival_at low rivals j).until) (value_of (rival_at low rivals j).until) e u (omega arith) le (so_far.allowed j less)
          | inr more ↦ let same : j ≡ k = omega arith in rw same (allows_here e here)
        ]

    -- the rival sets no lesser limit
    pub evaluated_kept : (f : Fraction) → IsBlock low a (value_of w) u f → IsAtMost u f → Evaluated low rivals (k + 1) u b
    evaluated_kept f block le =
        record {
          is_end = so_far.is_end;
          allowed = allowed_more u (omega arith) (block.allowed le);
          setter = setter_more k u b so_far.setter;
        }

    -- its limit is less
    pub evaluated_set : (f : Fraction) (n : ℕ) → ((d : Rival) → n ≡ (get_or rivals k d).number) → IsBlock low a (value_of w) u f → IsLess f u → Evaluated low rivals (k + 1) f (Some n)
    evaluated_set f n number block less =
        let limit = block.limit less in
        let d : Rival = record { number = 0; label = low; until = low.max } in
        let below : IsLess f (value_of low.max) = (let h = so_far.is_end.1 in less_at_most f u (value_of low.max) less h) in
        record {
          is_end = limit.is_end;
          allowed = allowed_more f (omega arith) limit.allowed;
          setter = (
            below,
            record {
              place = k;
              is_standing = omega arith;
              its_number = sym (number d);
              sets = rw (← its_label d, ← its_end d) limit;
              first = λ j lt stands other.
                  let le : IsAtMost u f = other.greatest u so_far.is_end (so_far.allowed j lt) in
                  omega arith;
            },
          );
        }

  greatest_of : (k : ℕ) (u : Fraction) (b : Option ℕ) → IsSetter (rival_at low rivals) (λ j. j < k) low u b →
      (e : Fraction) → IsEnd low e → ((j : ℕ) → j < k → RivalAllows low e (rival_at low rivals j)) → IsAtMost e u
  greatest_of k u None same e e_end all = at_most_trans e (value_of low.max) u e_end.1 (let s : IsSame u (value_of low.max) = same in omega arith)
  greatest_of k u (Some n) set e e_end all = set.1.sets.greatest e e_end (all set.1.place set.1.is_standing)

  setter_same : (k : ℕ) (u v : Fraction) (b : Option ℕ) → IsSame u v → IsSetter (rival_at low rivals) (λ j. j < k) low u b → IsSetter (rival_at low rivals) (λ j. j < k) low v b
  setter_same k u v None same h = let s : IsSame u (value_of low.max) = h in same_trans v u (value_of low.max) (omega arith) s
  setter_same k u v (Some n) same h =
      let at = h.1 in (
        at_most_less v u (value_of low.max) (omega arith) h.0,
        record {
          place = at.place;
          is_standing = at.is_standing;
          its_number = at.its_number;
          sets = limit_same low (rival_at low rivals at.place).label (value_of (rival_at low rivals at.place).until) (value_of (rival_at low rivals at.place).until) u v (omega arith) same at.sets;
          first = λ m less stands limit.
              at.first m less stands (limit_same low (rival_at low rivals m).label (value_of (rival_at low rivals m).until)
              (value_of (rival_at low rivals m).until) v u (omega arith) (omega arith) limit);
        },
      )

  -- after all rivals, the slot
  pub evaluated_all : (u : Fraction) (slot : Slot) → IsSame u (value_of slot.until) → Evaluated low rivals (length rivals) u slot.blocker → IsSlotAmong low rivals slot
  evaluated_all u slot same done =
      let v : Fraction = value_of slot.until in
      record {
        is_end = (at_most_trans (value_of low.min) u v done.is_end.0 (omega arith), at_most_trans v u (value_of low.max) (omega arith) done.is_end.1);
        allowed = λ j lt. Allows-smaller low (rival_at low rivals j).label (value_of (rival_at low rivals j).until)
            (value_of (rival_at low rivals j).until) v u (omega arith) (omega arith) (done.allowed j lt);
        greatest = λ e e_end all. at_most_trans e u v (greatest_of (length rivals) u slot.blocker done.setter e e_end all) (omega arith);
        setter = setter_same (length rivals) u v slot.blocker same done.setter;
      }
