use Rattle.ml_command.proofs.OneFollowing.{same_states, same_answers, same_held}
use Rattle.ml_command.proofs.laws.one_following.Goals as goal

pub returns-clause-states : goal.returns-clause-states
returns-clause-states c = same_states c.one_reading.ensures.one

pub returns-clause-answers : goal.returns-clause-answers
returns-clause-answers c = same_answers

pub returns-clause-held : goal.returns-clause-held
returns-clause-held c = same_held
