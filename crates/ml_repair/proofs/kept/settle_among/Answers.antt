use Rattle.ml_repair.proofs.KeptBlockers.{given_within}
use Rattle.ml_repair.proofs.kept.settle_among.Goals as goal

pub invariant_of-chosen : goal.invariant_of-chosen
invariant_of-chosen g c = record {
  in_roster = rw c.deref.ensures.value (given_within c.args.roster.now c.args.changed.now c.args.blocker c.in_ok-places.places.items c.in_ok-places.ensures.same c.requires.within c.requires.blocker);
}

pub returns-clause-left : goal.returns-clause-left
returns-clause-left g c = record {
  low = c.row-row.result.now.label;
  its = c.row-row.ensures.label;
  places = c.in_ok-places.places.items;
  ascending = c.in_ok-places.ensures.ascending;
  same = c.in_ok-places.ensures.same;
  among = rw c.deref.ensures.value at c.evaluate.ensures.own;
}
