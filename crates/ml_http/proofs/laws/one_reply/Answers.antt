use Rattle.ml_http.proofs.OneReply.{KnownEdits, one_reply}
use Rattle.ml_http.proofs.laws.one_reply.Goals as goal

pub returns : goal.returns
returns c s event one other t u is p q =
    let known : KnownEdits = record {
      one_refusal = c.one_refusal.ensures;
      one_edit = c.one_edit.ensures;
      one_changes = c.one_changes.ensures;
      one_cost = c.one_cost.ensures;
    } in
    one_reply c.one_label.ensures (record { longest = c.l0.ensures; slots = c.one_choice.ensures.slots; blocker = c.one_choice.ensures.blocker }) known s is event one other t u p q
