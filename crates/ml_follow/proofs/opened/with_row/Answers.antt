use Rattle.std.proofs.Common.{ℕ, subst}
use Rattle.ml_follow.specs.StateLine.{ReadsRow}
use Rattle.ml_follow.proofs.Rows.{longer_from, no_next}
use Rattle.ml_follow.proofs.opened.with_row.Goals as goal

pub returns-in-Some : goal.returns-in-Some
returns-in-Some c =
    let row = rw c.in-Some.is at c.in_ok-label.ensures in
    let here = subst (λ (place : ℕ). ReadsRow c.args.line.now place c.args.opened.count c.in-Some.label c.in-Some.slot) c.len-place.ensures row in
    longer_from c.one_spelling.ensures c.args.line.now c.args.opened c.in-Some.label c.in-Some.slot c.with_label.result here c.with_label.ensures

pub returns-in-None : goal.returns-in-None
returns-in-None c =
    let none = rw (c.in-None.is, c.len-place.ensures) at c.in_ok-label.ensures in
    no_next c.args.line.now c.args.opened none
