use Rattle.ml_command.proofs.WordLemmas.{no_view}
use Rattle.ml_command.proofs.words.view_of.Goals as goal

pub returns-in-Err : goal.returns-in-Err
returns-in-Err c = λ view.
    no_view c.in-Err._place c.args.cx.now c.args.cy.now c.args.w.now c.args.h.now c.args.scale.now view c.in-Err.ensures
