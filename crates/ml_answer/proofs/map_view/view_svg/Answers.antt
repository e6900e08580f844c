use Rattle.std.proofs.Common.{◌≡◌, ◌<◌, List, [], ◌∷◌, ◌++◌, length, take, All, Contains, sym, subst, ◌∙◌, arith}
use Rattle.std.proofs.Math.Seq.{take-length}
use Rattle.std.proofs.lemmas.List.Elements.{All-get_or}
use Rattle.std.proofs.lemmas.Result.{IfOk-weaker}
use Rattle.ml_store.specs.Rows.{IsLive}
use Rattle.ml_repair.specs.Shown.{AreShownNumbers}
use Rattle.ml_answer.specs.View.{no_label}
use Rattle.ml_answer.specs.Svg.{head_line}
use Rattle.ml_answer.proofs.MapViews.{one_more_number, svg_step}
use Rattle.ml_answer.proofs.map_view.view_svg.Goals as goal

pub add_svg-requires : goal.add_svg-requires
add_svg-requires c =
    let rows = c.args.editor.now.engine.rows in
    let live = subst (λ xs. All (IsLive rows) xs) (sym c.as_slice-number-items.ensures) c.in_ok-numbers.ensures.live in
    All-get_or (IsLive rows) c.as_slice-number-items.result.now c.loop-number.number-index 0 c.loop-number-test.true live

pub loop-number-preserved : goal.loop-number-preserved
loop-number-preserved c =
    let so_far = c.loop-number.invariant in
    let added = c.in_ok-add_svg.ensures in (
      so_far.0 ++ added.0 ∷ [],
      one_more_number c.args.editor.now.engine.rows c.as_slice-number-items.result.now c.loop-number.number-index so_far.0 added.0 c.loop-number-test.true so_far.1 added.1 added.2,
      svg_step _ _ c.args.view.now (head_line c.args.view.now.w c.args.view.now.h) so_far.0 added.0 added.3 so_far.2,
    )
