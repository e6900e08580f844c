use Rattle.std.proofs.Common.{sym}
use Rattle.ml_repair.proofs.Answered.{if_ok}
use Rattle.ml_repair.proofs.Present.{low_number, moved_at}
use Rattle.ml_repair.proofs.repair.put_slot.Goals as goal

pub put-requires : goal.put-requires
put-requires c = low_number c.args.roster.now c.args.i c.row-row.result.now c.row-row.ensures.numbered.low c.requires (sym (c.row-row.ensures.row c.row-row.result.now))

pub returns : goal.returns
returns c =
    if_ok c.put.result _ _ (λ _ h. moved_at c.args.roster.now c.args.i c.row-row.result.now c.args.slot c.args.moves.now c.put.new.self
    c.row-row.ensures.numbered.differ c.requires (sym (c.row-row.ensures.row c.row-row.result.now)) h) c.put.ensures
