use Rattle.std.proofs.Common.{subst, refl, inl}
use Rattle.ml_request.specs.Stream.{IsHeadTooLong}
use Rattle.ml_request.proofs.Marks.{size_fits}
use Rattle.ml_request.proofs.ReaderLemmas.{event_read}
use Rattle.ml_request.proofs.reader.read_event.Goals as goal

pub returns-in-Ok-TooLong-clause-event : goal.returns-in-Ok-TooLong-clause-event
returns-in-Ok-TooLong-clause-event g c =
    let gains = c.find_head.ensures.gains in
    (gains.taken, gains.takes, inl (subst IsHeadTooLong gains.behind (rw c.in-Ok-TooLong.field-0-is at c.in-Ok-TooLong.ensures.ok), refl))

pub judge_front-requires : goal.judge_front-requires
judge_front-requires g c =
    let found = rw c.in-Ok-Found.field-0-is at c.in-Ok-Found.ensures.ok in
    size_fits _ _ found.0

pub pass-requires : goal.pass-requires
pass-requires g c =
    let found = rw c.in-Ok-Found.field-0-is at c.in-Ok-Found.ensures.ok in
    size_fits _ _ found.0

pub returns-in-Ok-Ok-clause-event : goal.returns-in-Ok-Ok-clause-event
returns-in-Ok-Ok-clause-event g c =
    let found = rw c.in-Ok-Found.field-0-is at c.in-Ok-Found.ensures.ok in
    let judged = rw c.in-Ok-Ok.field-0-is at c.in-Ok-Ok.ensures in
    let read = c.read_request.ensures.event in
    event_read c.args.last _ _ _ _ _ _ c.in-Ok-Found.size c.in-Ok-Ok.head c.read_request.result c.find_head.ensures.gains
    (record { ends = found.0; short = found.1; judged = judged })
    _ read.0 c.pass.ensures read.1 read.2
