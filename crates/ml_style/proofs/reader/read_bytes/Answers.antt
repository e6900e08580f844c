use Rattle.toml.specs.View.{table_view}
use Rattle.ml_style.proofs.StyleLemmas.{answered}
use Rattle.ml_style.proofs.reader.read_bytes.Goals as goal

pub returns-in-Ok-table_from_str : goal.returns-in-Ok-table_from_str
returns-in-Ok-table_from_str c =
    answered c.args.bytes.now (table_view c.in-Ok-table_from_str.table) c.read_table.result
    (c.in-Ok.ensures.cases.1, rw c.in-Ok.ensures.cases.0 at c.in-Ok-table_from_str.ensures.ok) c.read_table.ensures
