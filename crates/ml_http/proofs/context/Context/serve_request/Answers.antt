use Rattle.std.proofs.Common.{refl}
use Rattle.ml_http.proofs.LinkLemmas.{idles}
use Rattle.ml_http.proofs.ConnectionLemmas.{turn_of_reply, served_none, served_fault, served_starved}
use Rattle.ml_http.proofs.context.Context.serve_request.Goals as goal

pub returns-in-Ok-Some-clause-turn : goal.returns-in-Ok-Some-clause-turn
returns-in-Ok-Some-clause-turn g c =
    let read = rw c.in-Ok-Some.field-0-is at c.in-Ok-Some.ensures.event in
    turn_of_reply _ _ _ _ _ read.0 c.in-Ok-Some.event c.requires.some refl read.1 read.2 _ c.reply_to.ensures.reply c.reply_to.ensures.last

pub returns-in-Ok-None-clause-turn : goal.returns-in-Ok-None-clause-turn
returns-in-Ok-None-clause-turn g c =
    let read = rw c.in-Ok-None.field-0-is at c.in-Ok-None.ensures.event in
    served_none _ _ _ _ read.0 read.1 c.requires.some read.2.0 read.2.1 refl

pub returns-in-Err-Failed-clause-turn : goal.returns-in-Err-Failed-clause-turn
returns-in-Err-Failed-clause-turn g c =
    let read = rw c.in-Err-Failed.field-0-is at c.in-Err-Failed.ensures.event in
    served_fault _ _ _ _ read.0 read.1 read.2 refl

pub returns-in-Err-Memory-clause-turn : goal.returns-in-Err-Memory-clause-turn
returns-in-Err-Memory-clause-turn g c =
    let read = rw c.in-Err-Memory.field-0-is at c.in-Err-Memory.ensures.event in
    served_starved _ _ _ _ read.0 read.1 _ _ (idles _) c.starve.ensures.starved
