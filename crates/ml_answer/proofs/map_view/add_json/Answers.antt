use Rattle.std.proofs.Common.{ap, ◌∙◌}
use Rattle.std.proofs.lemmas.Result.{on_ok_weaker}
use Rattle.ml_answer.specs.View.{with_label}
use Rattle.ml_answer.proofs.map_view.add_json.Goals as goal

pub returns : goal.returns
returns c =
    let live = c.requires in
    on_ok_weaker c.put.result
    (λ is. (
      live.0,
      live.1,
      live.2,
      is
          ∙ ap (λ l. with_label c.args.json.now l c.slot_at.result.until) (c.label_at.ensures live.0 live.1 live.2)
          ∙ ap (λ s. with_label c.args.json.now live.0.label s.until) (c.slot_at.ensures.slot live.0 live.1 live.2),
    ))
    c.put.ensures
