use Rattle.std.proofs.Common.{◌≡◌, List, ◌++◌, take, flat_map}
use Rattle.ml_store.specs.Rows.{labels_in}
use Rattle.ml_store.specs.declared.row.Row.{Row}
use Rattle.ml_answer.specs.Svg.{head_line, label_lines}
use Rattle.ml_answer.proofs.MapViews.{HaveNumbers}
use Rattle.ml_answer.proofs.map_view.view_svg.Given as goal

abbrev pub invariant-loop-number : goal.invariant-loop-number
invariant-loop-number l =
    (shown : List Row) × HaveNumbers l.editor.engine.rows (take l.number-index l.number-items) shown
    × (l.svg ≡ record { view = l.view; text = head_line l.view.w l.view.h ++ flat_map (label_lines l.view) (labels_in shown) })
