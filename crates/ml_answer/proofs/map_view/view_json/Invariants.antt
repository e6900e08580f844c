use Rattle.std.proofs.Common.{◌≡◌, List, map, take}
use Rattle.ml_store.specs.declared.row.Row.{Row}
use Rattle.ml_answer.specs.View.{no_label, with_labels}
use Rattle.ml_answer.specs.MapView.{shown_of}
use Rattle.ml_answer.proofs.MapViews.{HaveNumbers}
use Rattle.ml_answer.proofs.map_view.view_json.Given as goal

abbrev pub invariant-loop-number : goal.invariant-loop-number
invariant-loop-number l =
    (shown : List Row) × HaveNumbers l.editor.engine.rows (take l.number-index l.number-items) shown × (l.json ≡ with_labels (no_label l.view.scale) (map shown_of shown))
