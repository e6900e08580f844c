use Rattle.std.proofs.Common.{◌≡◌, ℕ, List, Option, Some, None, sym, ◌∙◌}
use Rattle.std.specs.Prelude.{codes, MatchOption}
use Rattle.std.proofs.lemmas.Bool.{false≢true}
use Rattle.std.proofs.lemmas.Slice.Eq.{bytes_eq-Decides}
use Rattle.ml_cone.specs.declared.label.Label.{Label}
use Rattle.ml_cone.specs.Places.{find_place, IsNoId, IsPlaceOf}
use Rattle.ml_cert.specs.SlotLine.{WritesBlocker}
use Rattle.ml_cert.proofs.slot_line.read_blocker.Goals as goal

-- a word that is neither `-` nor an id writes no blocker
no_blocker : (labels : List Label) (word : List ℕ) (found : Option ℕ) → MatchOption found (IsNoId labels word) (IsPlaceOf labels word) →
    found ≡ None → ¬ (word ≡ codes "-") → (b : Option ℕ) → ¬ (WritesBlocker labels word b)
no_blocker labels word None none e differ None h = differ h
no_blocker labels word None none e differ (Some j) h = none j h
no_blocker labels word (Some k) none e differ b h = cc

pub returns-in_err-place : goal.returns-in_err-place
returns-in_err-place c =
    let differ = λ (same : c.args.word.now ≡ codes "-"). absurd (false≢true (c.if-eq.ensures ∙ (bytes_eq-Decides c.args.word.now (codes "-")).1 same)) in
    rw (c.from_residual.ensures) (no_blocker c.args.labels.now c.args.word.now (find_place c.args.places.now c.args.word.now) (c.requires c.args.word.now) (sym c.in_err-place.ensures) differ)
