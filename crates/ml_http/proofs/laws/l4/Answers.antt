use Rattle.ml_answer.specs.MapView.{json_body, svg_body}
use Rattle.ml_http.specs.declared.kind.Kind.TheVariants as kinds
use Rattle.ml_http.proofs.SameReplies.{same_view_reply, json_made, svg_made}
use Rattle.ml_http.proofs.laws.l4.Goals as goal

pub returns-clause-json : goal.returns-clause-json
returns-clause-json c = same_view_reply c.one_label.ensures c.l0.ensures json_body json_made kinds.Json

pub returns-clause-svg : goal.returns-clause-svg
returns-clause-svg c = same_view_reply c.one_label.ensures c.l0.ensures svg_body svg_made kinds.Svg
