use Rattle.ml_command.proofs.OneAnswer.{one_map_answer}
use Rattle.ml_command.proofs.laws.one_map_answer.Goals as goal

pub returns : goal.returns
returns c = one_map_answer c.one_style.ensures c.one_map.ensures c.one_list.ensures c.one_choice.ensures.slots c.one_timeline.ensures.all c.one_peak.ensures
