use Rattle.ml_http.proofs.StayRight.{step_right}
use Rattle.ml_http.proofs.laws.held_tiles_stay_right.Goals as goal

pub returns : goal.returns
returns c = λ s t event answer old new step done texts.
    step_right c.one_label.ensures c.l0.ensures c.unchanged_stays.ensures.after c.unchanged_stays.ensures.before c.one_label_an_id.ensures s t event answer step old new done texts
