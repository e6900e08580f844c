use Rattle.ml_http.proofs.OneRead.{one_read}
use Rattle.ml_http.proofs.laws.one_read.Goals as goal

pub returns : goal.returns
returns c s route closes query a b is = one_read c.one_label.ensures
    (record { longest = c.l0.ensures; slots = c.one_choice.ensures.slots; blocker = c.one_choice.ensures.blocker }) s is route closes query a b
