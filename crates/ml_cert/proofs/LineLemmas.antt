-- What the words of a line say of the line.
use Rattle.std.proofs.Common.{◌≡◌, ℕ, List, [], ◌∷◌, Option, Some, None, sym, ◌∙◌}
use Rattle.std.specs.Prelude.{IsUtf8}
use Rattle.ml_ratio.specs.Lines.{parts}
use Rattle.ml_cone.specs.declared.label.Label.{Label}
use Rattle.ml_cone.specs.declared.slot.Slot.{Slot}
use Rattle.ml_cert.specs.SlotLine.{IsWordsAnswer, IsLineAnswer}

-- the answer for three words is the answer for the text that they make
pub line_of_words : (labels : List Label) (i : ℕ) (line id until blocker : List ℕ) (answer : Option Slot) → IsUtf8 line →
    parts 32 line ≡ id ∷ until ∷ blocker ∷ [] → IsWordsAnswer labels i id until blocker answer → IsLineAnswer labels i line answer
line_of_words labels i line id until blocker None text words h =
    λ slot l.
    let e : l.id ∷ l.until ∷ l.blocker ∷ [] ≡ id ∷ until ∷ blocker ∷ [] = sym l.words ∙ words in
    let p : l.id ≡ id = cc e in
    let q : l.until ≡ until = cc e in
    let r : l.blocker ≡ blocker = cc e in
    h slot (rw (p, q, r) at l.write)
line_of_words labels i line id until blocker (Some slot) text words h =
    record { is_text = text; id = id; until = until; blocker = blocker; words = words; write = h }
