use Rattle.std.proofs.Common.{arith, refl, ◌+◌, ◌-◌, ◌*◌, ◌%◌, ◌<◌, get_or}
use Rattle.ml_store.specs.Tiers.{order_of}
use Rattle.ml_store.proofs.Rings.{length_tiers}
use Rattle.ml_store.proofs.Holes.{taken_out, mate_low, first_cell, last_cell, passed_on}
use Rattle.ml_store.proofs.ring.pass_on.Goals as goal

pub loop-before-init : goal.loop-before-init
loop-before-init c =
    let a = c.requires.from_block in let b = c.requires.to_block in
    let low : get_or c.args.heads.now c.args.from 0 < 128 = c.requires.tiers.turns c.args.from (omega arith) in
    taken_out c.args.cells.now c.args.cell_of.now c.args.heads.now _ (c.args.from * 128 + (get_or c.args.heads.now c.args.from 0 + 128 - 1) % 128)
    (128 * c.args.from + 127) (128 * c.args.from + 127) c.requires.tiers (omega arith) refl (last_cell c.args.heads.now c.args.from low) refl

pub put-requires-clause-number : goal.put-requires-clause-number
put-requires-clause-number c =
    let a = c.requires.from_block in let b = c.requires.to_block in
    let block = c.loop-before.before + 1 in
    let low : get_or c.loop-before.heads block 0 < 128 = c.loop-before.invariant.open'.tiers.turns block (omega arith) in
    mate_low _ c.loop-before.cells c.loop-before.cell_of c.loop-before.heads _ c.loop-before.hole _ _ (128 * c.loop-before.before + 127) (128 * block)
    c.loop-before.invariant (omega arith) (λ e. omega arith) (first_cell c.loop-before.heads block low)

pub loop-before-preserved : goal.loop-before-preserved
loop-before-preserved c =
    let a = c.requires.from_block in let b = c.requires.to_block in
    let block = c.loop-before.before + 1 in
    rw (c.put.ensures.cells, c.put.ensures.cell_of) (passed_on (order_of c.args.heads.now c.args.cells.now) c.loop-before.cells c.loop-before.cell_of
    c.loop-before.heads _ c.loop-before.hole _
    (128 * c.args.from + 127) (128 * c.loop-before.before + 127) (128 * (c.loop-before.before + 1) + 127) block _ c.loop-before.invariant
    (length_tiers c.args.cells.now c.args.cell_of.now c.args.heads.now c.requires.tiers) (omega arith) (omega arith) (omega arith) (omega arith) refl
    refl)
