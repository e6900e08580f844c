use Rattle.std.proofs.Common.{◌∙◌, arith, sym}
use Rattle.std.proofs.lemmas.List.{take_all, length-map}
use Rattle.ml_store.specs.Rows.{numbers_in}
use Rattle.ml_store.specs.declared.row.Row.{Row}
use Rattle.ml_repair.proofs.Reading.{number_more}
use Rattle.ml_repair.proofs.read.all_numbers.Goals as goal

pub loop-place-preserved : goal.loop-place-preserved
loop-place-preserved c =
    let r = c.row.result.now in
    number_more c.args.store.now.rows c.loop-place.place r c.loop-place.numbers c.push.new.self (omega arith) (sym (c.row.ensures.row r)) c.loop-place.invariant c.in_ok-push.ensures.ok

pub returns : goal.returns
returns c =
    let many = length-map c.args.store.now.rows (λ (r : Row). r.number) in
    c.loop-place.invariant ∙ take_all c.loop-place.place (numbers_in c.args.store.now.rows) (omega arith)
