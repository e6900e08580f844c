use Rattle.std.proofs.Common.{◌∙◌, sym}
use Rattle.ml_ratio.proofs.lemmas.Sorting.{keys_decide}
use Rattle.ml_store.proofs.names.has_id.Goals as goal

pub returns : goal.returns
returns c name there same =
    let e = c.id_of.ensures name there same in
    let d = keys_decide c.id_of.result.now c.args.id.now in
    ((λ t. sym e ∙ d.0 (sym c.eq.ensures ∙ t)), λ h. c.eq.ensures ∙ d.1 (e ∙ h))
