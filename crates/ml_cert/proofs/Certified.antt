-- Best is the verdict exactly where the slots are the longest choice with its blockers.
use Rattle.std.proofs.Common.{◌≡◌, ℕ, ◌<◌, List, length, arith, inl, inr, ◌↔◌, refl}
use Rattle.ml_cone.specs.Choice.{Choice}
use Rattle.ml_cone.specs.Slots.{AreSlots, ends}
use Rattle.ml_cone.specs.Sound.{IsSound, IsCovered}
use Rattle.ml_cone.specs.declared.label.Label.{Label}
use Rattle.ml_cone.specs.declared.slot.Slot.{Slot}
use Rattle.ml_ratio.proofs.lemmas.Lists.{pick}
use Rattle.ml_cert.specs.Judged.{IsUncovered, IsVerdict}
use Rattle.ml_cert.specs.declared.verdict.Verdict.{Verdict}
use Rattle.ml_cert.specs.declared.verdict.Verdict.TheVariants.{Best, BadEnd, Clash, Uncovered, BadBlocker}

-- slots are the longest choice with its blockers exactly where nothing is wrong with any of them
abbrev pub SoundAreBest : Type 0
SoundAreBest = (labels : List Label) (slots : List Slot) → length slots ≡ length labels → ((i : ℕ) → i < length labels → IsSound labels slots i) ↔ AreSlots (λ j. j) labels slots

uncovered_not : (labels : List Label) (c : Choice) (i : ℕ) (a : Label) → IsUncovered labels c i → IsCovered labels c i → ⊥
uncovered_not labels c i a none (inl same) = let p = none.below a in let q = same a in omega arith
uncovered_not labels c i a none (inr (j, blocks)) = none.unblocked j blocks

-- where the slots are the longest choice with its blockers, no other verdict holds
verdict_best : (labels : List Label) (slots : List Slot) (v : Verdict) → ((i : ℕ) → i < length labels → IsSound labels slots i) → IsVerdict labels slots v → v ≡ Best
verdict_best labels slots Best sound h = refl
verdict_best labels slots (BadEnd i) sound h = absurd (h.1 (sound i h.0.is_label).good_end)
verdict_best labels slots (Clash i j f) sound h = absurd (h.2.refused ((sound i h.0.is_label).free j h.2.earlier))
verdict_best labels slots (Uncovered i) sound h = absurd (uncovered_not labels (ends slots) i (pick labels i h.0.is_label) h.3 (sound i h.0.is_label).covered)
verdict_best labels slots (BadBlocker i) sound h = absurd (h.4 (sound i h.0.is_label).blocker)

-- the verdict is that the slots are best exactly where they are the longest choice with its blockers
pub best_exactly : SoundAreBest → (labels : List Label) (slots : List Slot) (v : Verdict) → length slots ≡ length labels → IsVerdict labels slots v → (v ≡ Best) ↔ AreSlots (λ j. j) labels slots
best_exactly sound labels slots v e h =
    (λ best. (sound labels slots e).0 (rw best at h), λ are. verdict_best labels slots v ((sound labels slots e).1 are) h)
