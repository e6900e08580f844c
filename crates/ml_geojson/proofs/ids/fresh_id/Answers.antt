use Rattle.std.proofs.Common.{◌≡◌, ◌≤◌, suc, true, length, arith, ap, sym, ◌∙◌}
use Rattle.ml_geojson.specs.Taken.{is_taken}
use Rattle.ml_geojson.proofs.IdLemmas.{longest, taken_short, fresh_more}
use Rattle.ml_geojson.proofs.ids.fresh_id.Goals as goal

pub loop-alloc-smaller : goal.loop-alloc-smaller
loop-alloc-smaller c =
    let known : is_taken c.args.taken.now c.loop-alloc.id ≡ true = sym c.contains.ensures ∙ c.loop-alloc-test.true in
    let short : length c.loop-alloc.id ≤ longest c.args.taken.now.keys = taken_short c.args.taken.now c.loop-alloc.id known in
    let longer : length c.in_ok-id-2.id ≡ suc (length c.loop-alloc.id) = ap length c.in_ok-id-2.ensures in
    omega arith

pub loop-alloc-preserved : goal.loop-alloc-preserved
loop-alloc-preserved c =
    let known : is_taken c.args.taken.now c.loop-alloc.id ≡ true = sym c.contains.ensures ∙ c.loop-alloc-test.true in
    fresh_more (is_taken c.args.taken.now) c.args.k c.loop-alloc.id c.in_ok-id-2.id c.in_ok-id-2.ensures known c.loop-alloc.invariant
