use Rattle.std.proofs.Common.{arith, refl, ◌+◌, ◌-◌, ◌*◌, ◌<◌, get_or}
use Rattle.ml_store.specs.Tiers.{order_of}
use Rattle.ml_store.proofs.Rings.{length_tiers}
use Rattle.ml_store.proofs.Holes.{taken_out, mate_low, first_cell, last_cell, passed_back}
use Rattle.ml_store.proofs.ring.pass_back.Goals as goal

pub loop-passed-init : goal.loop-passed-init
loop-passed-init c =
    let in' = c.requires.from_block in
    let low : get_or c.args.heads.now c.args.from 0 < 128 = c.requires.tiers.turns c.args.from in' in
    taken_out c.args.cells.now c.args.cell_of.now c.args.heads.now _ (c.args.from * 128 + get_or c.args.heads.now c.args.from 0) (128 * c.args.from)
    (128 * (c.args.from - 0)) c.requires.tiers (omega arith) (omega arith) (first_cell c.args.heads.now c.args.from low) refl

pub put-requires-clause-number : goal.put-requires-clause-number
put-requires-clause-number c =
    let in' = c.requires.from_block in
    let block = c.args.from - c.loop-passed.passed - 1 in
    let low : get_or c.loop-passed.heads block 0 < 128 = c.loop-passed.invariant.open'.tiers.turns block (omega arith) in
    mate_low _ c.loop-passed.cells c.loop-passed.cell_of c.loop-passed.heads _ c.loop-passed.hole _ _ (128 * (c.args.from - c.loop-passed.passed))
    (128 * block + 127) c.loop-passed.invariant (omega arith) (λ e. omega arith) (last_cell c.loop-passed.heads block low)

pub loop-passed-preserved : goal.loop-passed-preserved
loop-passed-preserved c =
    let in' = c.requires.from_block in
    let block = c.args.from - c.loop-passed.passed - 1 in
    rw (c.put.ensures.cells, c.put.ensures.cell_of) (passed_back (order_of c.args.heads.now c.args.cells.now) c.loop-passed.cells
    c.loop-passed.cell_of c.loop-passed.heads _ c.loop-passed.hole _
    (128 * c.args.from) (128 * (c.args.from - c.loop-passed.passed)) (128 * (c.args.from - (c.loop-passed.passed + 1))) block _
    c.loop-passed.invariant
    (length_tiers c.args.cells.now c.args.cell_of.now c.args.heads.now c.requires.tiers) (omega arith) (omega arith) (omega arith) (omega arith) refl
    refl)
