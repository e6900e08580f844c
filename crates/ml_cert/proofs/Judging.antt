-- What all labels before i say of the slot at i together.
use Rattle.std.proofs.Common.{◌≡◌, ◌≢◌, ℕ, ◌<◌, List, length, get_or, arith, ◌⊎◌, inl, inr, refl, ap, sym, ◌∙◌, subst, Option, Some, None}
use Rattle.std.specs.Prelude.{is_some, false, true}
use Rattle.std.proofs.lemmas.Bool.{cases_order}
use Rattle.std.proofs.lemmas.List.{get_or_default}
use Rattle.ml_ratio.specs.Fraction.{Fraction, value_of, IsLess, IsAtMost, IsSame}
use Rattle.ml_cone.specs.Choice.{Choice, IsEnd}
use Rattle.ml_cone.specs.Slots.{IsBlockerBy, ends, no_slot}
use Rattle.ml_cone.specs.Sound.{HasGoodEnd, IsCovered, IsSound}
use Rattle.ml_cone.specs.declared.label.Label.{Label}
use Rattle.ml_cone.specs.declared.slot.Slot.{Slot}
use Rattle.ml_cert.proofs.Dues.{is_none_of}
use Rattle.ml_cert.specs.Judged.{AllSoundBefore, IsFirstInQuestion, IsDue, IsUncovered, IsVerdict}
use Rattle.ml_cert.specs.declared.verdict.Verdict.TheVariants.{Uncovered, BadBlocker}

-- a is the label at i, which ends at u
module _ (labels : List Label) (c : Choice) (i : ℕ) (a : Label) (u : Fraction) (its_label : (d : Label) → get_or labels i d ≡ a) (its_end : c i ≡ u) where
  end_here : IsEnd a u → (d : Label) → IsEnd (get_or labels i d) (c i)
  end_here good d = rw (its_label d, its_end) good

  uncovered : (due : Option ℕ) → IsDue labels c i i due → is_some due ≡ false → IsLess u (value_of a.max) → IsUncovered labels c i
  uncovered due all none below =
      record {
        below = λ d. rw (its_label d, its_end) below;
        unblocked = λ j blocks. (rw (is_none_of due none) at all.first) j (blocks a).0 blocks;
      }

  -- the blocker that is due, where one is or the end is the maximum
  due_blocker : (due : Option ℕ) → IsEnd a u → IsDue labels c i i due → (is_some due ≡ true) ⊎ IsAtMost (value_of a.max) u → IsBlockerBy (λ j. j) labels c i due × IsCovered labels c i
  due_blocker None good all (inl e) = cc
  due_blocker None good all (inr le) =
      let same : (d : Label) → IsSame (c i) (value_of (get_or labels i d).max) = (λ (d : Label). rw (its_label d, its_end) (omega (arith, good.1))) in
      (same, inl same)
  due_blocker (Some m) good all h = ((m, refl, all.first.0, all.first.1), inr (m, all.first.0))

-- there is one blocker at most
blocker_unique : (labels : List Label) (c : Choice) (i : ℕ) (a : Label) (b b' : Option ℕ) → IsBlockerBy (λ j. j) labels c i b → IsBlockerBy (λ j. j) labels c i b' → b ≡ b'
blocker_unique labels c i a None None h k = refl
blocker_unique labels c i a None (Some n) h k = absurd (let p = h a in let q = (k.2 a).1 in omega arith)
blocker_unique labels c i a (Some m) None h k = absurd (let p = k a in let q = (h.2 a).1 in omega arith)
blocker_unique labels c i a (Some m) (Some n) h k =
    elim (cases_order h.0 k.0) [
      | inl e ↦ let p : h.0 ≡ m = h.1 in let q : k.0 ≡ n = k.1 in let same : m ≡ n = omega arith in ap Some same
      | inr (inl less) ↦ absurd (k.3 h.0 less h.2)
      | inr (inr more) ↦ absurd (h.3 k.0 more k.2)
    ]

-- a is the label at i, s its slot with an end in range, and `due` the blocker that is due
pub record IsJudged (labels : List Label) (slots : List Slot) (i : ℕ) (a : Label) (s : Slot) (due : Option ℕ) : Type 0 where
  pub question : IsFirstInQuestion labels slots i
  pub its_label : (d : Label) → get_or labels i d ≡ a
  pub its_slot : get_or slots i no_slot ≡ s
  pub good : IsEnd a (value_of s.until)
  pub all : IsDue labels (ends slots) i i due

-- what a program has read and found
pub judged_of : (labels : List Label) (slots : List Slot) (i : ℕ) (a : Label) (s : Slot) (due : Option ℕ) →
    i < length labels → length slots ≡ length labels → AllSoundBefore labels slots i → a ≡ get_or labels i a →
    s ≡ get_or slots i s → IsEnd a (value_of s.until) → IsDue labels (ends slots) i i due → IsJudged labels slots i a s due
judged_of labels slots i a s due in' same before label slot good all =
    record {
      question = record { is_label = in'; before = before };
      its_label = λ d. get_or_default labels i d a in' ∙ sym label;
      its_slot = get_or_default slots i no_slot s (omega arith) ∙ sym slot;
      good = good;
      all = all;
    }

-- the last step of a judgement
module _ {labels : List Label} {slots : List Slot} {i : ℕ} {a : Label} {s : Slot} {due : Option ℕ} (judged : IsJudged labels slots i a s due) where
  its_end : ends slots i ≡ value_of s.until
  its_end = ap (λ (x : Slot). value_of x.until) judged.its_slot

  good_here : HasGoodEnd labels (ends slots) i
  good_here = end_here labels (ends slots) i a (value_of s.until) judged.its_label its_end judged.good

  owed : (is_some due ≡ true) ⊎ IsAtMost (value_of a.max) (value_of s.until) → IsBlockerBy (λ j. j) labels (ends slots) i due × IsCovered labels (ends slots) i
  owed = due_blocker labels (ends slots) i a (value_of s.until) judged.its_label its_end due judged.good judged.all

  -- where no blocker is due and the end is below the maximum, the verdict is that the label is not covered
  pub verdict_uncovered : is_some due ≡ false → IsLess (value_of s.until) (value_of a.max) → IsVerdict labels slots (Uncovered i)
  verdict_uncovered none below =
      (judged.question, good_here, judged.all.allowed, uncovered labels (ends slots) i a (value_of s.until) judged.its_label its_end due judged.all none below)

  -- where the slot names the blocker that is due, or none at the maximum, nothing is wrong with it
  pub sound_here : (is_some due ≡ true) ⊎ IsAtMost (value_of a.max) (value_of s.until) → s.blocker ≡ due → IsSound labels slots i
  sound_here either same =
      let given : due ≡ (get_or slots i no_slot).blocker = sym (ap (λ (x : Slot). x.blocker) judged.its_slot ∙ same) in
      record {
        good_end = good_here;
        free = judged.all.allowed;
        covered = (owed either).1;
        blocker = subst (IsBlockerBy (λ j. j) labels (ends slots) i) given (owed either).0;
      }

  -- where the slot names another blocker than the one that is due, the verdict is that its blocker is wrong
  pub verdict_bad_blocker : (is_some due ≡ true) ⊎ IsAtMost (value_of a.max) (value_of s.until) → s.blocker ≢ due → IsVerdict labels slots (BadBlocker i)
  verdict_bad_blocker either differ = (
    judged.question,
    good_here,
    judged.all.allowed,
    (owed either).1,
    λ given.
        differ (sym (ap (λ (x : Slot). x.blocker) judged.its_slot) ∙ blocker_unique labels (ends slots) i a (get_or slots i no_slot).blocker due given (owed either).0),
  )
