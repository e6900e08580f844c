use Rattle.ml_follow.specs.States.{IsStatesFault}
use Rattle.ml_follow.proofs.Files.{file_start, file_more, file_fault, file_all, file_cut, handed_on}
use Rattle.ml_follow.proofs.states.read_all.Goals as goal

pub loop-line-init : goal.loop-line-init
loop-line-init c = rw c.new-states.ensures (file_start c.args.bytes.now)

pub loop-line-preserved : goal.loop-line-preserved
loop-line-preserved c =
    file_more c.args.bytes.now c.loop-line.rest.now c.in-Some.line.now c.in-Some.after.now c.loop-line.number c.loop-line.states c.loop-line.last
    c.in-Some.ensures.0 c.in-Some.ensures.1 c.loop-line.invariant c.take_line.new.states c.in_ok-last.last c.in_ok-last.ensures.taken

pub returns-in_err-last-clause-bad_state : goal.returns-in_err-last-clause-bad_state
returns-in_err-last-clause-bad_state c =
    let fault = c.in_err-last.field-0.0 in
    handed_on (λ f. IsStatesFault c.args.bytes.now f) c.from_residual.result fault c.from_residual.ensures.1
    (file_fault c.args.bytes.now c.loop-line.rest.now c.in-Some.line.now c.in-Some.after.now c.loop-line.number c.loop-line.states
    c.loop-line.last c.in-Some.ensures.0 c.in-Some.ensures.1 c.loop-line.invariant fault c.in_err-last.ensures.bad_state)

pub returns-then-is_all-clause-ok : goal.returns-then-is_all-clause-ok
returns-then-is_all-clause-ok c =
    file_all c.args.bytes.now c.loop-line.rest.now c.loop-line.number c.loop-line.states c.loop-line.last c.in_default.ensures c.loop-line.invariant c.if-is_all.ensures.0 c.if-is_all.ensures.1

pub returns-else-is_all-clause-bad_state : goal.returns-else-is_all-clause-bad_state
returns-else-is_all-clause-bad_state c =
    file_cut c.args.bytes.now c.loop-line.rest.now c.loop-line.number c.loop-line.states c.loop-line.last c.in_default.ensures c.loop-line.invariant c.if-is_all.ensures
