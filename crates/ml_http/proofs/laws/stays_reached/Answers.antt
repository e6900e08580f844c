use Rattle.ml_http.proofs.OneAccount.{next_state, link_state}
use Rattle.ml_http.proofs.laws.stays_reached.Goals as goal

pub returns : goal.returns
returns g c =
    let reaches = c.accepted_is_reached.ensures in
    record {
      event = λ s t event answer is x. next_state reaches s is event answer t x;
      connection = λ hearing old new input out end is x. link_state reaches hearing old new input out end is x;
    }
