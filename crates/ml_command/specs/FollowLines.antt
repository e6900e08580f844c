-- The lines that say what became of states that were offered, and what is held in the end.
use Rattle.std.specs.Prelude.{◌≡◌, ℕ, List, ◌++◌, length, map, codes, decimal, Option, Some, None}
use Rattle.ml_cone.specs.declared.label.Label.{Label}
use Rattle.ml_cert.specs.declared.verdict.Verdict.{Verdict}
use Rattle.ml_follow.specs.declared.fault.OfferFault.{OfferFault}
use Rattle.ml_follow.specs.declared.fault.OfferFault.TheVariants.{Stale, NotBest, Memory}
use Rattle.ml_follow.specs.declared.state.State.{State}
use Rattle.ml_watch.specs.Line.{id_text}
use Rattle.ml_command.specs.VerdictText.{AreItsPlaces, verdict_line}

-- the ids of labels, as they stand in lines
abbrev pub spelled_ids : List Label → List (List ℕ)
spelled_ids labels = map (λ label. id_text label.order.id) labels

-- a word, a revision and another number
abbrev pub numbers_line : List ℕ → ℕ → ℕ → List ℕ
numbers_line word rev number = word ++ (decimal rev ++ (codes " " ++ (decimal number ++ codes "\n")))

-- the line of a state that was adopted: its revision, and how many labels it has
abbrev pub adopted_line : ℕ → ℕ → List ℕ
adopted_line rev count = numbers_line (codes "adopted ") rev count

-- the line of a state that was stale: its revision, and the one that was held
abbrev pub stale_line : ℕ → ℕ → List ℕ
stale_line rev held = numbers_line (codes "stale ") rev held

-- the line of a state that was refused: its revision, and the verdict with these ids
abbrev pub refused_line : ℕ → List (List ℕ) → Verdict → List ℕ
refused_line rev ids verdict = codes "refused " ++ (decimal rev ++ (codes " " ++ verdict_line ids verdict))

-- the line of what is held in the end
abbrev pub held_line : Option State → List ℕ
held_line None = codes "held none\n"
held_line (Some state) = numbers_line (codes "held ") state.rev (length state.labels)

-- the places in a fault are places of ids
abbrev pub AreFaultPlaces : List (List ℕ) → OfferFault → Type 0
AreFaultPlaces ids (Stale held) = Unit {0}
AreFaultPlaces ids (NotBest verdict) = AreItsPlaces ids verdict
AreFaultPlaces ids Memory = Unit {0}

-- the line of a state with this revision and these ids that was not adopted; there is none for out of memory
abbrev pub IsFaultLine : ℕ → List (List ℕ) → OfferFault → List ℕ → Type 0
IsFaultLine rev ids (Stale held) line = line ≡ stale_line rev held
IsFaultLine rev ids (NotBest verdict) line = line ≡ refused_line rev ids verdict
IsFaultLine rev ids Memory line = ⊥
