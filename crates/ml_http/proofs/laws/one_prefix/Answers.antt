use Rattle.ml_http.proofs.OneAccount.{beginning}
use Rattle.ml_http.proofs.laws.one_prefix.Goals as goal

pub returns : goal.returns
returns g c hearing old new bytes input out end texts is brings x owed =
    beginning c.accepted_is_reached.ensures c.one_reply.ensures hearing old new bytes input out texts brings is owed end x
