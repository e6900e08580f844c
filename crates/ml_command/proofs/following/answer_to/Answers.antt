use Rattle.std.proofs.Common.{[]}
use Rattle.ml_command.proofs.FollowLemmas.{passed_over}
use Rattle.ml_command.proofs.following.answer_to.Goals as goal

pub returns-in_ok-line-in-Err-clause-answered : goal.returns-in_ok-line-in-Err-clause-answered
returns-in_ok-line-in-Err-clause-answered g c =
    rw (c.in-Err.ensures.held, c.in-Err.ensures.crowd) (
      [],
      (
        passed_over c.args.follower.now c.args.state c.in-Err.fault c.in_ok-line-in-Err.line.items c.in-Err.ensures.refused
            (rw (c.as_slice-in-Err.ensures, c.in_ok-ids.ensures, c.as_slice.ensures) at c.in_ok-line-in-Err.ensures),
        c.hear_nothing.ensures c.args.crowd.now,
      ),
    )
