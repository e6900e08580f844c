use Rattle.std.proofs.Common.{◌∙◌, sym, ap, Some, append-nil, map}
use Rattle.toml.specs.View.{members_view}
use Rattle.ml_style.specs.FontTable.{advances_of, pair_of}
use Rattle.ml_style.proofs.TableLemmas.{one_more, advances_ascend}
use Rattle.ml_style.proofs.font_table.read_advances.Goals as goal

pub loop-key-preserved : goal.loop-key-preserved
loop-key-preserved c =
    let found = rw c.as_str.ensures.value at c.in-Some-advance_in.ensures in
    rw c.in_ok-push.ensures.ok (one_more c.loop-key.advances c.in-Some-advance_in.advance _ (advances_of (members_view c.next.new.self)) found ∙ rw c.in-Some.ensures.steps at c.loop-key.invariant)

pub returns-clause-ascending : goal.returns-clause-ascending
returns-clause-ascending c =
    let all = rw c.in-None.ensures.steps.0 at c.loop-key.invariant in
    advances_ascend c.args.table.now.entries c.loop-key.advances c.iter-key-items.ensures.ordered (sym all ∙ ap Some (append-nil (map pair_of c.loop-key.advances)))
