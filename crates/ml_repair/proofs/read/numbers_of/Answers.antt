use Rattle.std.proofs.Common.{◌∙◌, arith, sym, ap, map, ℕ}
use Rattle.std.proofs.lemmas.List.{take_all}
use Rattle.ml_store.specs.Rows.{number_at}
use Rattle.ml_repair.proofs.Reading.{place_more}
use Rattle.ml_repair.proofs.read.numbers_of.Goals as goal

pub loop-place-preserved : goal.loop-place-preserved
loop-place-preserved c =
    let r = c.row.result.now in
    let k : ℕ = c.loop-place.place-index in
    place_more c.args.store.now.rows c.args.places.now k r c.loop-place.numbers c.push.new.self (omega arith)
    (c.requires k 0 (omega arith)) (sym (c.row.ensures.row r)) c.loop-place.invariant c.in_ok-push.ensures.ok

pub returns : goal.returns
returns c = c.loop-place.invariant ∙ ap (map (number_at c.args.store.now.rows)) (take_all c.loop-place.place-index c.args.places.now (omega arith))
