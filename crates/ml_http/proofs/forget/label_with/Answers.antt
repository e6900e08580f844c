use Rattle.std.proofs.Common.{Contains, sym, ap, ◌∙◌, subst}
use Rattle.ml_cone.specs.declared.label.Label.{Label}
use Rattle.ml_store.specs.Rows.{labels_in}
use Rattle.ml_ratio.proofs.lemmas.Lists.{contains_map}
use Rattle.ml_http.proofs.forget.label_with.Goals as goal

pub returns-in-Some-clause-label : goal.returns-in-Some-clause-label
returns-in-Some-clause-label c =
    let there = c.in-Some.ensures.number in
    let rows = c.args.editor.now.engine.rows in
    let is = c.label_at.ensures there.0 there.1 there.3 in
    let P : Label → Type 0 = λ l. Contains (labels_in rows) l in
    (subst P (sym is) (contains_map (λ r. r.label) rows there.0 there.1), ap (λ (l : Label). l.order.id) is ∙ there.2)
