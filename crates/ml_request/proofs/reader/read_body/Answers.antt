use Rattle.std.proofs.Common.{◌≡◌, ◌+◌, ◌<◌, ◌++◌, length, arith, ap, ◌∙◌, length-append}
use Rattle.ml_request.proofs.ReaderLemmas.{moved, moved_count, gained}
use Rattle.ml_request.proofs.lemmas.Takes.{takes_twice}
use Rattle.ml_request.proofs.reader.read_body.Goals as goal

pub pieces-preserved : goal.pieces-preserved
pieces-preserved g c =
    let so_far = moved _ _ _ _ _ _ c.pieces.invariant.so_far c.in-Ok.ensures.body c.in-Ok.ensures.held in
    let counts = moved_count _ _ _ _ c.args.length _ c.pieces.invariant.short (omega (arith, c.len.ensures, c.pieces.body.ok)) c.in-Ok.ensures.body c.in-Ok.ensures.held in
    record {
      taken = c.pieces.invariant.taken ++ c.fill.ensures.gains.taken;
      takes = takes_twice _ _ _ _ _ c.pieces.invariant.takes c.fill.ensures.gains.takes;
      so_far = gained _ _ _ _ _ _ so_far c.fill.ensures.gains.behind;
      short = counts.0;
      same = c.in-Ok-fill.ensures.cause.fine ∙ c.pieces.invariant.same;
    }

pub returns-in-Err-fill-clause-body : goal.returns-in-Err-fill-clause-body
returns-in-Err-fill-clause-body g c =
    let so_far = moved _ _ _ _ _ _ c.pieces.invariant.so_far c.in-Ok.ensures.body c.in-Ok.ensures.held in
    let counts = moved_count _ _ _ _ c.args.length _ c.pieces.invariant.short (omega (arith, c.len.ensures, c.pieces.body.ok)) c.in-Ok.ensures.body c.in-Ok.ensures.held in
    let more = c.fill.ensures.gains.taken in
    let all : c.args.held.now ++ (c.pieces.invariant.taken ++ more) ≡ c.move_into.new.body.items ++ c.fill.new.self = gained _ _ _ _ _ _ so_far c.fill.ensures.gains.behind in
    let total : length (c.args.held.now ++ (c.pieces.invariant.taken ++ more)) ≡ length c.move_into.new.body.items + length c.fill.new.self =
    ap length all ∙ length-append c.move_into.new.body.items c.fill.new.self in
    let less : length c.move_into.new.body.items < c.args.length = omega (arith, counts.0, c.if-len-length.false, c.len-in-pieces.ensures, c.move_into.new.body.ok) in
    let none : length c.fill.new.self ≡ 0 = ap length c.in-Err-fill.ensures.err ∙ counts.1 less in
    (c.pieces.invariant.taken ++ more, takes_twice _ _ _ _ _ c.pieces.invariant.takes c.fill.ensures.gains.takes, omega (arith, total, less, none))
