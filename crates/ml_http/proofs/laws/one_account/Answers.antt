use Rattle.ml_http.proofs.OneAccount.{one_written, one_ending, one_told, one_state}
use Rattle.ml_http.proofs.laws.one_account.Goals as goal

pub returns : goal.returns
returns g c =
    let reaches = c.accepted_is_reached.ensures in
    let once = c.one_reply.ensures in
    record {
      written = λ hearing bytes one other both same. one_written reaches once hearing bytes one other both same;
      ended = λ hearing bytes one other both. one_ending reaches once hearing bytes one other both;
      told = λ hearing bytes one other both. one_told reaches once hearing bytes one other both;
      states = λ hearing bytes one other both. one_state reaches once hearing bytes one other both;
    }
