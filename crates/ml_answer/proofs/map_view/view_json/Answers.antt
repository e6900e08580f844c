use Rattle.std.proofs.Common.{◌≡◌, ◌<◌, List, [], ◌∷◌, ◌++◌, length, take, All, Contains, sym, subst, ◌∙◌, arith}
use Rattle.std.proofs.Math.Seq.{take-length}
use Rattle.std.proofs.lemmas.List.Elements.{All-get_or}
use Rattle.std.proofs.lemmas.Result.{IfOk-weaker}
use Rattle.ml_store.specs.Rows.{IsLive}
use Rattle.ml_repair.specs.Shown.{AreShownNumbers}
use Rattle.ml_answer.specs.View.{no_label}
use Rattle.ml_answer.specs.Svg.{head_line}
use Rattle.ml_answer.proofs.MapViews.{one_more_number, json_more}
use Rattle.ml_answer.proofs.map_view.view_json.Goals as goal

pub add_json-requires : goal.add_json-requires
add_json-requires c =
    let rows = c.args.editor.now.engine.rows in
    let live = subst (λ xs. All (IsLive rows) xs) (sym c.as_slice-number-items.ensures) c.in_ok-numbers.ensures.live in
    All-get_or (IsLive rows) c.as_slice-number-items.result.now c.loop-number.number-index 0 c.loop-number-test.true live

pub loop-number-preserved : goal.loop-number-preserved
loop-number-preserved c =
    let so_far = c.loop-number.invariant in
    let added = c.in_ok-add_json.ensures in (
      so_far.0 ++ added.0 ∷ [],
      one_more_number c.args.editor.now.engine.rows c.as_slice-number-items.result.now c.loop-number.number-index so_far.0 added.0 c.loop-number-test.true so_far.1 added.1 added.2,
      added.3 ∙ json_more _ (no_label c.args.view.now.scale) so_far.0 added.0 so_far.2,
    )

pub returns : goal.returns
returns c =
    let so_far = c.loop-number.invariant in
    let items = c.as_slice-number-items.result.now in
    let at_end : c.loop-number.number-index ≡ length items = omega (arith, c.loop-number-test.false, c.loop-number.auto.number-index-end) in
    let all : take c.loop-number.number-index items ≡ items = subst (λ n. take n items ≡ items) (sym at_end) (take-length items) in
    let numbers = so_far.1.numbers_are ∙ all ∙ c.as_slice-number-items.ensures in
    IfOk-weaker c.finish.result _ _
    (λ text whole. (
      c.args.editor.now.engine.rows,
      record { labels = c.in_ok-numbers.ensures.holds.labels; settled = c.in_ok-numbers.ensures.holds.settled },
      (
        so_far.0,
        record { among = so_far.1.among; numbers = subst (λ ns. AreShownNumbers c.args.editor.now.engine.rows c.args.view.now ns) (sym numbers) c.in_ok-numbers.ensures.shown },
        whole c.args.view.now.scale _ so_far.2,
      ),
    ))
    c.finish.ensures.whole
