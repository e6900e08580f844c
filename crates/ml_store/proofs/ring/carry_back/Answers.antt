use Rattle.std.proofs.Common.{arith, refl, ◌≡◌, ◌+◌, ◌-◌, ◌/◌}
use Rattle.ml_store.specs.Tiers.{order_of}
use Rattle.ml_store.proofs.Rings.{length_tiers}
use Rattle.ml_store.proofs.Holes.{taken_out, cell_before, mate_low, carried_back}
use Rattle.ml_store.proofs.ring.carry_back.Goals as goal

pub loop-init : goal.loop-init
loop-init c =
    taken_out c.args.cells.now c.args.cell_of.now c.args.heads.now _ c.cell_at-hole.result c.args.from (c.args.from - 0) c.requires.tiers
    c.requires.from_place (omega arith) c.cell_at-hole.ensures.cell refl

pub put-requires-clause-number : goal.put-requires-clause-number
put-requires-clause-number c =
    let block : (c.args.from - (c.loop.counter + 1)) / 128 ≡ (c.args.from - c.loop.counter) / 128 = (let b = c.requires.block in omega arith) in
    let next = cell_before c.args.heads.now c.loop.hole (c.args.from - c.loop.counter) (c.args.from - (c.loop.counter + 1)) c.loop.invariant.here
    (omega arith) block in
    let in' = c.requires.from_place in
    mate_low _ c.loop.cells c.loop.cell_of c.args.heads.now _ c.loop.hole _ c.args.from (c.args.from - c.loop.counter)
    (c.args.from - (c.loop.counter + 1)) c.loop.invariant (omega arith) (λ e. omega arith) next

pub loop-preserved : goal.loop-preserved
loop-preserved c =
    let block : (c.args.from - (c.loop.counter + 1)) / 128 ≡ (c.args.from - c.loop.counter) / 128 = (let b = c.requires.block in omega arith) in
    let next = cell_before c.args.heads.now c.loop.hole (c.args.from - c.loop.counter) (c.args.from - (c.loop.counter + 1)) c.loop.invariant.here
    (omega arith) block in
    let in' = c.requires.from_place in
    rw (c.put.ensures.cells, c.put.ensures.cell_of) (carried_back (order_of c.args.heads.now c.args.cells.now) c.loop.cells c.loop.cell_of
    c.args.heads.now _ c.loop.hole _ _ c.args.from (c.args.from - c.loop.counter) (c.args.from - (c.loop.counter + 1)) c.loop.invariant
    (length_tiers c.args.cells.now c.args.cell_of.now c.args.heads.now c.requires.tiers) in' (omega arith) (omega arith) next refl)
