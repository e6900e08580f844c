use Rattle.ml_command.proofs.OneAnswer.{one_table_answer}
use Rattle.ml_command.proofs.laws.one_table_answer.Goals as goal

pub returns : goal.returns
returns c = one_table_answer c.one_table.ensures.one c.one_choice.ensures.slots c.one_answer.ensures
