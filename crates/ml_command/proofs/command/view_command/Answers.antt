use Rattle.std.proofs.Common.{string_bytes}
use Rattle.ml_command.proofs.CommandLemmas.{no_show_map}
use Rattle.ml_command.proofs.WordLemmas.{two_items}
use Rattle.ml_command.proofs.command.view_command.Goals as goal

pub returns-in-None : goal.returns-in-None
returns-in-None c =
    let words = two_items string_bytes c.args.rest.now c.style-item.result c.map-item.result c.in-len2-up.len_at_least c.style-item.is c.map-item.is in
    rw words (no_show_map (string_bytes c.style-item.result) (string_bytes c.map-item.result) _ c.in-None.ensures)
