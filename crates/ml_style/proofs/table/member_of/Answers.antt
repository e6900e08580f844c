use Rattle.toml.proofs.Views.{table_get}
use Rattle.ml_style.proofs.table.member_of.Goals as goal

pub returns : goal.returns
returns c = table_get c.get.result c.args.key.now c.args.table.now.entries c.get.ensures.value
