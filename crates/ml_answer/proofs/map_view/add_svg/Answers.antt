use Rattle.std.proofs.Common.{ap, ◌∙◌, ◌++◌}
use Rattle.std.proofs.lemmas.Result.{on_ok_weaker}
use Rattle.ml_answer.specs.Svg.{SvgViewState, label_lines}
use Rattle.ml_answer.proofs.map_view.add_svg.Goals as goal

pub returns : goal.returns
returns c =
    let live = c.requires in
    on_ok_weaker c.add.result
    (λ is. (
      live.0,
      live.1,
      live.2,
      is ∙ ap (λ l. let s : SvgViewState = record { view = c.args.svg.now.view; text = c.args.svg.now.text ++ label_lines c.args.svg.now.view l } in s) (c.label_at.ensures live.0 live.1 live.2),
    ))
    c.add.ensures.ok
