-- What one more label before i says of the blocker that is due at i.
use Rattle.std.proofs.Common.{◌≡◌, ℕ, ◌+◌, ◌<◌, List, length, get_or, arith, inl, inr, refl, ap, sym, ◌∙◌, Option, Some, None}
use Rattle.std.specs.Prelude.{MatchOption, is_some, false, true}
use Rattle.std.proofs.lemmas.Bool.{cases_lt}
use Rattle.std.proofs.lemmas.List.{get_or_default}
use Rattle.ml_ratio.specs.Fraction.{Fraction, value_of, IsLess, IsAtMost, IsSame}
use Rattle.ml_ratio.specs.declared.ratio.Ratio.{Ratio}
use Rattle.ml_ratio.proofs.lemmas.Fractions.{at_most_less}
use Rattle.ml_cone.specs.Choice.{Choice, IsEnd, Allows, IsLimit, Blocks}
use Rattle.ml_cone.specs.Slots.{ends, no_slot}
use Rattle.ml_cone.specs.Sound.{HasGoodEnd, AllowsAt}
use Rattle.ml_cone.specs.declared.label.Label.{Label}
use Rattle.ml_cone.specs.declared.slot.Slot.{Slot}
use Rattle.ml_conflict.specs.Begin.{SetsNoneUpTo}
use Rattle.ml_cert.specs.Judged.{IsDue, IsClash}
use Rattle.ml_cert.specs.Known.{Known}

-- an option that the test finds empty is none
pub is_none_of : (o : Option ℕ) → is_some o ≡ false → o ≡ None
is_none_of None e = refl
is_none_of (Some n) e = cc

-- the first of the labels before j that blocks the label at i, if any does
abbrev IsFirstBlock : List Label → Choice → ℕ → ℕ → Option ℕ → Type 0
IsFirstBlock labels c i j due =
    MatchOption due ((k : ℕ) → k < j → ¬ (Blocks labels c k i)) (λ m. Blocks labels c m i × ((k : ℕ) → k < m → ¬ (Blocks labels c k i)))

-- a and b are the labels at i and at j before it, which end at u and v, and u is in the range of a
pub record ArePair (labels : List Label) (c : Choice) (i j : ℕ) (a b : Label) (u v : Fraction) : Type 0 where
  pub earlier : j < i
  pub its_label : (d : Label) → get_or labels i d ≡ a
  pub other_label : (d : Label) → get_or labels j d ≡ b
  pub its_end : c i ≡ u
  pub other_end : c j ≡ v
  pub good : IsEnd a u

-- the pair that a program reads
pub pair_of : (labels : List Label) (slots : List Slot) (i j : ℕ) (a b : Label) (s t : Slot) → j < i → i < length labels →
    length slots ≡ length labels → a ≡ get_or labels i a → b ≡ get_or labels j b → HasGoodEnd labels (ends slots) i →
    ArePair labels (ends slots) i j a b (value_of (get_or slots i s).until) (value_of (get_or slots j t).until)
pair_of labels slots i j a b s t lt in' same its other good =
    let its_label : (d : Label) → get_or labels i d ≡ a = (λ (d : Label). get_or_default labels i d a in' ∙ sym its) in
    let slot : get_or slots i no_slot ≡ get_or slots i s = get_or_default slots i no_slot s (omega arith) in
    record {
      earlier = lt;
      its_label = its_label;
      other_label = λ d. get_or_default labels j d b (omega arith) ∙ sym other;
      its_end = ap (λ (x : Slot). value_of x.until) slot;
      other_end = ap (λ (x : Slot). value_of x.until) (get_or_default slots j no_slot t (omega arith));
      good = end_there labels (ends slots) i a (value_of (get_or slots i s).until) its_label (ap (λ (x : Slot). value_of x.until) slot) (good a);
    }
  where
    end_there : (labels : List Label) (c : Choice) (i : ℕ) (a : Label) (u : Fraction) → ((d : Label) → get_or labels i d ≡ a) → c i ≡ u → IsEnd (get_or labels i a) (c i) → IsEnd a u
    end_there labels c i a u its_label its_end h = rw (its_label a, its_end) at h

module _ (known : Known) {labels : List Label} {c : Choice} {i j : ℕ} {a b : Label} {u v : Fraction} (pair : ArePair labels c i j a b u v) where
  -- where b allows a the end u, the label at j allows the one at i its end in the choice
  pub allows_at : Allows a b v u → AllowsAt labels c j i
  allows_at h d = rw (pair.its_label d, pair.other_label d, pair.its_end, pair.other_end) h

  clear_at : Allows a b v u → (IsLimit a b v u → IsLess u (value_of a.max) → ⊥) → ¬ (Blocks labels c j i)
  clear_at allowed refuted blocks =
      let limit = known.limits labels c j i a (rw (pair.its_label a, pair.its_end) pair.good) (allows_at allowed a) blocks in
      refuted (rw (pair.its_label a, pair.other_label a, pair.its_end, pair.other_end) at limit) (rw (pair.its_label a, pair.its_end) at ((blocks a).1))

  blocks_at : IsLess u (value_of a.max) → IsLimit a b v u → Blocks labels c j i
  blocks_at below limit =
      known.blocks labels c j i pair.earlier (λ d. rw (pair.its_label d, pair.its_end) below) (λ d. rw (pair.its_label d, pair.other_label d, pair.its_end, pair.other_end) limit)

  -- a label that sets no limit up to the end allows it and does not block it
  pub aside_of : SetsNoneUpTo a b v u → AllowsAt labels c j i × ¬ (Blocks labels c j i)
  aside_of none =
      let allowed = known.allowed a b v u pair.good.1 none in
      (allows_at allowed, clear_at allowed (λ limit below. let above : IsLess u u = none u limit below in omega arith))

  -- one whose limit is the end allows it and blocks it
  pub blocker_of : {f : Fraction} → IsLimit a b v f → IsLess f (value_of a.max) → IsSame f u → AllowsAt labels c j i × Blocks labels c j i
  blocker_of {f} limit below same =
      let here = known.same a b v v f u (omega arith) same limit in
      (allows_at here.allowed, blocks_at (at_most_less u f (value_of a.max) (omega arith) below) here)

  module _ {due : Option ℕ} (so_far : IsDue labels c i j due) where
    allowed_more : AllowsAt labels c j i → (k : ℕ) → k < j + 1 → AllowsAt labels c k i
    allowed_more here k h = elim (cases_lt k j) [ inl less ↦ so_far.allowed k less | inr more ↦ let same : k ≡ j = omega arith in rw same here ]

    due_clear : Allows a b v u → ¬ (Blocks labels c j i) → IsDue labels c i (j + 1) due
    due_clear allowed clear =
        record {
          allowed = allowed_more (allows_at allowed);
          first = first due so_far.first;
        }
      where
        first : (due : Option ℕ) → IsFirstBlock labels c i j due → IsFirstBlock labels c i (j + 1) due
        first None h = λ k l. elim (cases_lt k j) [ inl less ↦ h k less | inr more ↦ let same : k ≡ j = omega arith in rw same clear ]
        first (Some m) h = h

    -- the label at j sets no limit up to the end
    pub due_none : SetsNoneUpTo a b v u → IsDue labels c i (j + 1) due
    due_none none = due_clear (known.allowed a b v u pair.good.1 none) (aside_of none).1

    -- its limit is the end, and no label before it blocks
    pub due_more : {f : Fraction} → IsLimit a b v f → IsLess f (value_of a.max) → IsSame f u → is_some due ≡ false → IsDue labels c i (j + 1) (Some j)
    due_more {f} limit below same none =
        let blocker = blocker_of limit below same in
        record {
          allowed = allowed_more blocker.0;
          first = (blocker.1, rw (is_none_of due none) at so_far.first);
        }

    -- a label before it blocks already
    pub due_kept : {f : Fraction} → IsLimit a b v f → IsAtMost u f → is_some due ≡ true → IsDue labels c i (j + 1) due
    due_kept {f} limit le e =
        record {
          allowed = allowed_more (allows_at (known.smaller a b v v u f (omega arith) le limit.allowed));
          first = first due e so_far.first;
        }
      where
        first : (due : Option ℕ) → is_some due ≡ true → IsFirstBlock labels c i j due → IsFirstBlock labels c i (j + 1) due
        first None e h = cc
        first (Some n) e h = h

    -- its limit is below the end
    pub clash_at : (f : Ratio) → IsLimit a b v (value_of f) → IsLess (value_of f) u → IsClash labels c i j f
    clash_at f limit less =
        record {
          earlier = pair.earlier;
          first = so_far.allowed;
          refused = λ allowed. let le : IsAtMost u (value_of f) = limit.greatest u pair.good (rw (pair.its_label a, pair.other_label a, pair.its_end, pair.other_end) at (allowed a)) in omega arith;
          limit = λ d. rw (pair.its_label d, pair.other_label d, pair.other_end) limit;
        }
