use Rattle.std.proofs.Common.{string_bytes}
use Rattle.ml_command.proofs.CommandLemmas.{no_show}
use Rattle.ml_command.proofs.WordLemmas.{first_item}
use Rattle.ml_command.proofs.command.show_command.Goals as goal

pub returns-in-None : goal.returns-in-None
returns-in-None c =
    let words = first_item string_bytes c.args.rest.now c.table-item.result c.in-len1-up.len_at_least c.table-item.is in
    rw words (no_show (string_bytes c.table-item.result) _ c.in-None.ensures)
