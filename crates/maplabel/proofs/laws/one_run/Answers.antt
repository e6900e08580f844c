use Rattle.maplabel.proofs.OneRun.{KnownRuns, alike, printed}
use Rattle.maplabel.proofs.laws.one_run.Goals as goal

pub returns : goal.returns
returns g c =
    let known : KnownRuns _ _ _ = record {
      one_command = c.one_command.ensures;
      table = c.one_table_answer.ensures;
      map_text = c.one_map_answer.ensures;
      totals = c.one_totals.ensures;
      first = c.one_first_state.ensures;
      reached = c.first_is_reached.ensures;
      states = c.one_following.ensures.states;
      answers = c.one_following.ensures.answers;
      held = c.one_following.ensures.held;
      written = c.one_account.ensures.written;
      told = c.one_account.ensures.told;
      replies = c.one_session.ensures.replies;
      session_told = c.one_session.ensures.told;
    } in
    record {
      printed = λ one other words found x y same. printed known one other words found x y same;
      alike = λ one other words found x y. alike known one other words found x y;
    }
