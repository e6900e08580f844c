-- The lines of gaps, a label more at a time; and where shown labels stand.
use Rattle.std.proofs.Common.{◌≡◌, ℕ, ◌+◌, ◌<◌, List, [], ◌∷◌, ◌++◌, length, get_or, take, arith, sym, ap, ◌∙◌, append_assoc}
use Rattle.std.specs.Prelude.{All}
use Rattle.std.proofs.lemmas.List.{append-nil, length-take, take_more, get_or_default}
use Rattle.ml_cone.specs.declared.label.Label.{Label}
use Rattle.ml_cone.specs.declared.view.View.{View}
use Rattle.ml_gaps.specs.Gaps.{AreShownGaps}
use Rattle.ml_gaps.specs.declared.gap.Gap.{Gap}
use Rattle.ml_command.specs.GapLines.{gap_line, gap_lines}

-- the lines of labels, and one more
lines_push : (labels : List Label) (gaps : List Gap) (label : Label) (gap : Gap) → length gaps ≡ length labels →
    gap_lines (labels ++ label ∷ []) (gaps ++ gap ∷ []) ≡ gap_lines labels gaps ++ gap_line label.order.id gap
lines_push [] [] label gap n = append-nil (gap_line label.order.id gap)
lines_push [] (s ∷ gaps) label gap n = absurd (omega arith)
lines_push (l ∷ labels) [] label gap n = absurd (omega arith)
lines_push (l ∷ labels) (s ∷ gaps) label gap n =
    ap (λ (rest : List ℕ). gap_line l.order.id s ++ rest) (lines_push labels gaps label gap (omega arith))
    ∙ sym (append_assoc (gap_line l.order.id s) (gap_lines labels gaps) (gap_line label.order.id gap))

-- the gap lines of the first i + 1 labels are those of the first i and that of the next label
pub lines_more : (labels : List Label) (gaps : List Gap) (i : ℕ) (d : Label) (e : Gap) → length gaps ≡ length labels → i < length labels →
    gap_lines (take (i + 1) labels) (take (i + 1) gaps) ≡ gap_lines (take i labels) (take i gaps) ++ gap_line (get_or labels i d).order.id (get_or gaps i e)
lines_more labels gaps i d e n at =
    rw (take_more labels i d at, take_more gaps i e (omega arith))
    (lines_push (take i labels) (take i gaps) (get_or labels i d) (get_or gaps i e) (omega (arith, length-take i labels, length-take i gaps)))

-- shown labels are labels
pub shown_placed : (labels : List Label) (gaps : List Gap) (v : View) (places : List ℕ) → AreShownGaps labels gaps v places → All (λ place. place < length labels) places
shown_placed labels gaps v places shown k d lt = rw (get_or_default places k 0 d lt) at (shown.sound k lt).0
