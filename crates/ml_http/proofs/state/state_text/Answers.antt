use Rattle.std.proofs.Common.{All, sym, subst, ◌∙◌, arith}
use Rattle.std.proofs.lemmas.List.Elements.{All-get_or}
use Rattle.std.proofs.lemmas.Result.{IfOk-weaker}
use Rattle.ml_store.specs.Rows.{IsLive}
use Rattle.ml_http.proofs.StatePlaces.{low_numbers, row_added, all_added}
use Rattle.ml_http.proofs.state.state_text.Goals as goal

pub places_of-requires-clause-low : goal.places_of-requires-clause-low
places_of-requires-clause-low c =
    low_numbers c.args.editor.now.engine.rows c.as_slice.result.now (c.as_slice.ensures ∙ c.in_ok-numbers.ensures.numbers) c.rev-rev.ensures.holds.settled.low_numbers

pub add_row-requires-clause-live : goal.add_row-requires-clause-live
add_row-requires-clause-live c =
    let rows = c.args.editor.now.engine.rows in
    let live = subst (λ xs. All (IsLive rows) xs) (sym c.as_slice-number-items.ensures) c.in_ok-numbers.ensures.live in
    All-get_or (IsLive rows) c.as_slice-number-items.result.now c.loop-number.number-index 0 c.loop-number-test.true live

pub loop-number-preserved : goal.loop-number-preserved
loop-number-preserved c =
    row_added c.args.editor.now.engine.rows c.rev-rev.ensures.holds.settled.own_numbers c.rev-rev.result c.loop-number.number-index c.as_slice-number-items.result.now _ _
    (c.as_slice-number-items.ensures ∙ c.in_ok-numbers.ensures.numbers) c.loop-number-test.true c.loop-number.invariant c.in_ok-add_row.ensures

pub returns : goal.returns
returns c =
    let items = c.as_slice-number-items.result.now in
    IfOk-weaker c.finish.result _ _
    (λ text whole.
    all_added c.args.editor.now.state c.args.editor.now.engine.rows c.rev-rev.ensures.holds.labels c.rev-rev.ensures.holds.settled c.rev-rev.result c.rev-rev.ensures.rev items
    (c.as_slice-number-items.ensures ∙ c.in_ok-numbers.ensures.numbers) c.loop-number.number-index
    (omega (arith, c.loop-number-test.false, c.loop-number.auto.number-index-end)) _ text c.loop-number.invariant whole)
    c.finish.ensures.whole
