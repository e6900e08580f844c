use Rattle.ml_gen.proofs.Made.{shown_of}
use Rattle.ml_gen.proofs.turn.count_shown.Goals as goal

pub returns : goal.returns
returns g c = (
  c.view_of-view.result,
  c.view_of-view.ensures,
  shown_of c.args.editor.now c.view_of-view.result c.in_ok-numbers.numbers c.len.result c.rev-rev.ensures.holds c.in_ok-numbers.ensures.shown c.len.ensures,
)
