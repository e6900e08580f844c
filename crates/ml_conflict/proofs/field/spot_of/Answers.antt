use Rattle.std.proofs.Common.{◌≡◌, rules, w64, FitsSigned, ap, subst, ◌∙◌, get_or}
use Rattle.std.proofs.lemmas.Int.{to_z-of_z}
use Rattle.std.proofs.lemmas.List.{get_or_default}
use Rattle.ml_cone.specs.SiteOf.{IsSiteOf}
use Rattle.ml_cone.specs.declared.label.Label.{Label}
use Rattle.ml_conflict.proofs.field.spot_of.Goals as goal

pub returns-clause-spot : goal.returns-clause-spot
returns-clause-spot c =
    let labels = c.args.labels.now in
    let label = c.index-labels-i.result in
    let own : (d : Label) → label ≡ get_or labels c.args.i d = λ d. c.index-labels-i.is ∙ get_or_default labels c.args.i label d c.requires.there in
    let fits : FitsSigned w64 c.x.result = search rules in
    let fits_y : FitsSigned w64 c.y.result = search rules in
    record {
      there = c.requires.there;
      x = λ d. simp to_z-of_z (c.x.ensures ∙ ap (λ (a : Label). a.x) (own d));
      y = λ d. simp to_z-of_z (c.y.ensures ∙ ap (λ (a : Label). a.y) (own d));
      site = λ d. subst (IsSiteOf c.of.result) (own d) c.of.ensures;
    }
