use Rattle.std.proofs.Common.{◌≡◌, map}
use Rattle.toml.specs.View.{table_view, members_view}
use Rattle.ml_style.specs.FontTable.{advances_of, pair_of}
use Rattle.ml_style.proofs.TableLemmas.{after}
use Rattle.ml_style.proofs.font_table.read_advances.Given as goal

abbrev pub invariant-loop-key : goal.invariant-loop-key
invariant-loop-key l = after (map pair_of l.advances) (advances_of (members_view l.key-iterator)) ≡ advances_of (table_view l.table)
