use Rattle.ml_serve.proofs.OneSession.{OneAccount, one_replies, one_states, one_told}
use Rattle.ml_serve.proofs.laws.one_session.Goals as goal

pub returns : goal.returns
returns g c =
    let account : OneAccount g.row.W.Denot = record { written = c.one_account.ensures.written; told = c.one_account.ensures.told; states = c.one_account.ensures.states } in
    let stays = c.stays_reached.ensures.connection in
    record {
      replies = λ hearing ends links one other same. one_replies stays account hearing ends links one other same;
      told = λ hearing ends links one other same. one_told stays account hearing ends links one other same;
      states = λ hearing ends links one other same. one_states stays account hearing ends links one other same;
    }
