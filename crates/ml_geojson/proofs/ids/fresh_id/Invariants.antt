use Rattle.std.proofs.Common.{◌+◌, ◌-◌, length}
use Rattle.ml_geojson.specs.Taken.{is_taken}
use Rattle.ml_geojson.proofs.IdLemmas.{longest, FreshSoFar}
use Rattle.ml_geojson.proofs.ids.fresh_id.Given as goal

abbrev pub invariant-loop-alloc : goal.invariant-loop-alloc
invariant-loop-alloc l = FreshSoFar (is_taken l.taken) l.k l.id

abbrev pub decreases-loop-alloc : goal.decreases-loop-alloc
decreases-loop-alloc l = longest l.taken.keys + 1 - length l.id
