-- What a view shows of a map, and its text.
use Rattle.std.specs.Prelude.{◌≡◌, ℕ, List, map, All, Contains}
use Rattle.ml_cone.specs.declared.view.View.{View}
use Rattle.ml_label.specs.Labels.{AreLabelsOf}
use Rattle.ml_store.specs.Rows.{labels_in, numbers_in}
use Rattle.ml_store.specs.declared.row.Row.{Row}
use Rattle.ml_repair.specs.Settled.{IsSettled}
use Rattle.ml_repair.specs.Shown.{AreShownNumbers}
use Rattle.ml_editor.specs.State.{State}
use Rattle.ml_answer.specs.Svg.{svg_text}
use Rattle.ml_answer.specs.View.{Shown, view_text}

-- the labels of a map, in priority order, each with a number and with its slot; the slots are the longest choice with its blockers
pub record AreRowsOf (s : State) (rows : List Row) : Type 0 where
  pub labels : AreLabelsOf s.style s.features (labels_in rows)
  pub settled : IsSettled rows

-- those of the rows that the view shows, in priority order
pub record AreShownRows (rows : List Row) (view : View) (shown : List Row) : Type 0 where
  pub among : All (Contains rows) shown
  pub numbers : AreShownNumbers rows view (numbers_in shown)

-- a shown label, with the scale from which on it is not shown
abbrev pub shown_of : Row → Shown
shown_of row = record { label = row.label; until = row.slot.until }

-- the body of a view as JSON, and as SVG
abbrev pub json_body : View → List Row → List ℕ
json_body view shown = view_text view.scale (map shown_of shown)

abbrev pub svg_body : View → List Row → List ℕ
svg_body view shown = svg_text view (labels_in shown)

-- the text is made of what the view shows of the map
abbrev pub IsViewText : (View → List Row → List ℕ) → State → View → List ℕ → Type 0
IsViewText body s view text = (rows : List Row) × AreRowsOf s rows × ((shown : List Row) × AreShownRows rows view shown × (text ≡ body view shown))
