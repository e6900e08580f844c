-- The labels that a view shows, one after another.
use Rattle.std.proofs.Common.{◌≡◌, ℕ, ◌+◌, ◌<◌, List, [], ◌∷◌, ◌++◌, length, map, take, get_or}
use Rattle.std.proofs.Common.{All, Contains, refl, sym, ap, ◌∙◌, subst, append_assoc, append-nil, flat_map}
use Rattle.std.proofs.lemmas.List.{take_more, map-append}
use Rattle.std.proofs.lemmas.List.Elements.{All-append, All-cons, All-nil}
use Rattle.std.proofs.lemmas.List.Concat.{flat_map-cons}
use Rattle.std.proofs.lemmas.Grind.{flat_map-append}
use Rattle.ml_cone.specs.declared.label.Label.{Label}
use Rattle.ml_cone.specs.declared.view.View.{View}
use Rattle.ml_store.specs.Rows.{numbers_in, labels_in}
use Rattle.ml_store.specs.declared.row.Row.{Row}
use Rattle.ml_answer.specs.Svg.{SvgViewState, label_lines}
use Rattle.ml_answer.specs.View.{Shown, JsonViewState, with_label, with_labels}
use Rattle.ml_answer.specs.MapView.{shown_of}

-- these rows have these numbers, in order
pub record HaveNumbers (rows : List Row) (numbers : List ℕ) (shown : List Row) : Type 0 where
  pub among : All (Contains rows) shown
  pub numbers_are : numbers_in shown ≡ numbers

-- no rows have no numbers, where a loop over numbers begins
pub no_numbers : (rows : List Row) → HaveNumbers rows [] []
no_numbers rows = record { among = All-nil (Contains rows); numbers_are = refl }

-- one more row with its number, as the loop goes on
pub one_more_number : (rows : List Row) (numbers : List ℕ) (i : ℕ) (shown : List Row) (row : Row)
    → i < length numbers → HaveNumbers rows (take i numbers) shown → Contains rows row → row.number ≡ get_or numbers i 0
    → HaveNumbers rows (take (i + 1) numbers) (shown ++ row ∷ [])
one_more_number rows numbers i shown row within so_far here number = record {
  among = All-append (Contains rows) shown (row ∷ []) so_far.among (All-cons (Contains rows) row [] here (All-nil (Contains rows)));
  numbers_are =
      map-append (λ r. r.number) shown (row ∷ [])
      ∙ ap (λ xs. xs ++ row.number ∷ []) so_far.numbers_are
      ∙ ap (λ n. take i numbers ++ n ∷ []) number
      ∙ sym (take_more numbers i 0 within);
}

-- a view with one more label at its end
with_more : (state : JsonViewState) (labels : List Shown) (one : Shown) → with_labels state (labels ++ one ∷ []) ≡ with_label (with_labels state labels) one.label one.until
with_more state [] one = refl
with_more state (x ∷ labels) one = with_more (with_label state x.label x.until) labels one

-- a view of the rows so far, to which the next row's label is added, is the view of one row more
pub json_more : (old first : JsonViewState) (shown : List Row) (row : Row) → old ≡ with_labels first (map shown_of shown)
    → with_label old row.label row.slot.until ≡ with_labels first (map shown_of (shown ++ row ∷ []))
json_more old first shown row is =
    ap (λ s. with_label s row.label row.slot.until) is
    ∙ sym (with_more first (map shown_of shown) (shown_of row))
    ∙ ap (with_labels first) (sym (map-append shown_of shown (row ∷ [])))

-- a drawing with the lines of one more label at its end
pub svg_more : (view : View) (old head : List ℕ) (shown : List Row) (row : Row) → old ≡ head ++ flat_map (label_lines view) (labels_in shown)
    → old ++ label_lines view row.label ≡ head ++ flat_map (label_lines view) (labels_in (shown ++ row ∷ []))
svg_more view old head shown row is =
    ap (λ xs. xs ++ label_lines view row.label) is
    ∙ append_assoc head (flat_map (label_lines view) (labels_in shown)) (label_lines view row.label)
    ∙ ap (λ xs. head ++ xs)
    (ap (λ xs. flat_map (label_lines view) (labels_in shown) ++ xs) (sym (flat_map-cons (label_lines view) row.label [] ∙ append-nil (label_lines view row.label)))
    ∙ sym (flat_map-append (label_lines view) (labels_in shown) (row.label ∷ []))
    ∙ ap (flat_map (label_lines view)) (sym (map-append (λ r. r.label) shown (row ∷ []))))

-- a drawing with the lines of one more label
abbrev drawn : SvgViewState → Label → SvgViewState
drawn svg label = record { view = svg.view; text = svg.text ++ label_lines svg.view label }

abbrev drawing : View → List ℕ → SvgViewState
drawing view text = record { view = view; text = text }

-- a drawing of the rows so far, to which the next row's label is added, is the drawing of one row more
pub svg_step : (old new : SvgViewState) (view : View) (head : List ℕ) (shown : List Row) (row : Row) → new ≡ drawn old row.label
    → old ≡ drawing view (head ++ flat_map (label_lines view) (labels_in shown))
    → new ≡ drawing view (head ++ flat_map (label_lines view) (labels_in (shown ++ row ∷ [])))
svg_step old new view head shown row is so_far =
    is
    ∙ ap (λ svg. drawn svg row.label) so_far
    ∙ ap (drawing view) (svg_more view (head ++ flat_map (label_lines view) (labels_in shown)) head shown row refl)
