use Rattle.ml_http.proofs.OneAccount.{one_owed}
use Rattle.ml_http.proofs.laws.one_list_of_replies.Goals as goal

pub returns : goal.returns
returns c s bytes one other is x y =
    let reaches = c.accepted_is_reached.ensures in
    one_owed reaches c.one_reply.ensures s bytes one other is x y
