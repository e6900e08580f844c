use Rattle.std.proofs.Common.{arith, subst}
use Rattle.ml_flight.specs.Stay.{IsApart}
use Rattle.ml_flight.specs.declared.stay.Stay.{Stay}
use Rattle.ml_flight.proofs.Joining.{join_none, join_more, join_next, join_scales, join_apart}
use Rattle.ml_flight.proofs.timeline.joined.Goals as goal
use Rattle.ml_flight.proofs.timeline.joined.Goals.{then-joins, else-joins+in_ok-push}

pub loop-piece-init : goal.loop-piece-init
loop-piece-init c =
    let first = c.in-Some.ensures.item in
    rw c.new-stays.ensures (join_none c.args.pieces.now c.in-Some.first.now c.in-Some.first.now (omega arith) first.1 c.requires)

pub loop-piece-preserved : goal.loop-piece-preserved
loop-piece-preserved c =
    let at = c.piece-item.is in
    elim c.if-joins.branch [
      | then-joins w ↦
          rw (w.stays-is, w.current-is) (join_more c.args.pieces.now c.loop-piece.piece-index c.loop-piece.stays
          c.loop-piece.current w.joined_with-current.result c.piece-item.result c.loop-piece.invariant (omega arith)
          (rw (← at) w.joined_with-current.ensures.scales) w.joined_with-current.ensures.from w.joined_with-current.ensures.from_in)
      | else-joins+in_ok-push w ↦
          rw (w.stays-is, w.current-is, w.in_ok-push.ensures.ok, at)
          (join_next c.args.pieces.now c.loop-piece.piece-index c.loop-piece.stays c.loop-piece.current c.piece-item.result c.loop-piece.invariant (omega arith) c.requires
          (subst (λ (a : Stay). IsApart c.loop-piece.current a) at w.if-joins.ensures))
    ]

pub joined_with-current-requires-clause-order : goal.joined_with-current-requires-clause-order
joined_with-current-requires-clause-order c =
    rw c.piece-item.is (c.loop-piece.invariant.begins c.loop-piece.piece-index c.piece-item.result (omega arith) (omega arith))

pub returns-clause-same : goal.returns-clause-same
returns-clause-same c s = rw c.in_ok-push-2.ensures.ok (join_scales c.args.pieces.now c.loop-piece.piece-index c.loop-piece.stays c.loop-piece.current c.loop-piece.invariant (omega arith) s)

pub returns-clause-apart : goal.returns-clause-apart
returns-clause-apart c = rw c.in_ok-push-2.ensures.ok (join_apart c.args.pieces.now c.loop-piece.piece-index c.loop-piece.stays c.loop-piece.current c.loop-piece.invariant)
