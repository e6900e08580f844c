use Rattle.ml_repair.proofs.Gathering.{all_within}
use Rattle.ml_repair.proofs.Enough.{enough_own}
use Rattle.ml_repair.proofs.settle.settle.Goals as goal

pub invariant_of-chosen : goal.invariant_of-chosen
invariant_of-chosen g c = record {
  in_roster = rw c.deref.ensures.value (all_within c.args.roster.now c.args.edited.at c.args.edited.comes c.args.i c.in_ok-places.places.items c.requires.is_place c.in_ok-places.ensures.enough.stand);
}

pub returns-clause-own : goal.returns-clause-own
returns-clause-own g c d =
    enough_own c.rivals_or_free.ensures c.rivals_overlap.ensures c.bound_overlaps.ensures c.blocking.ensures.blocks c.smaller_ends.ensures c.allowed_up_to.ensures c.carried.ensures c.joined.ensures
    c.args.roster.now c.args.moves.now c.row-row.result.now.label c.args.edited.at c.args.edited.comes c.args.i c.in_ok-places.places.items c.evaluate.result c.requires.is_place c.requires.ends
    c.in_ok-places.ensures.ascending c.in_ok-places.ensures.enough (rw c.deref.ensures.value at c.evaluate.ensures.own) d
    (λ e. c.row-row.ensures.label e)
