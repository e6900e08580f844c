use Rattle.std.proofs.Common.{◌∙◌, sym, ap, refl}
use Rattle.std.specs.Ordering.{nat_cmp}
use Rattle.std.specs.Cmp.Lexicographic.{slice_cmp}
use Rattle.std.proofs.lemmas.Bool.{false≢true}
use Rattle.ml_store.proofs.names.is_before.Goals as goal

pub returns-in-Less : goal.returns-in-Less
returns-in-Less c name there same =
    let e = c.id_of.ensures name there same in
    ((λ t. ap (λ x. slice_cmp nat_cmp x c.args.id.now) (sym e) ∙ sym c.cmp.ensures ∙ c.in-Less.is), λ h. refl)

pub returns-in_default : goal.returns-in_default
returns-in_default c name there same =
    let e = c.id_of.ensures name there same in
    ((λ t. absurd (false≢true t)), λ h. absurd (c.in_default.not-Less (c.cmp.ensures ∙ ap (λ x. slice_cmp nat_cmp x c.args.id.now) e ∙ h)))
