use Rattle.std.proofs.Common.{rules, ◌≡◌, ◌++◌, ◌∙◌}
use Rattle.ml_answer.specs.View.{view_end}
use Rattle.ml_answer.proofs.Views.{view_whole}
use Rattle.ml_answer.proofs.view.JsonView.finish.Goals as goal

pub returns-clause-whole : goal.returns-clause-whole
returns-clause-whole c =
    let written : c.of_vec.result ≡ c.args.self.text ++ view_end c.args.self.scale = search rules in
    λ scale labels added. written ∙ view_whole c.args.self scale labels added
