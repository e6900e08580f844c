use Rattle.std.proofs.Common.{refl, sym, subst}
use Rattle.ml_editor.specs.Faults.{AsksFor, wish_of}
use Rattle.ml_editor.specs.declared.asked.Asked.{Asked}
use Rattle.ml_editor.specs.declared.edit.Edit.TheVariants.{Add, Replace, Restyle}
use Rattle.ml_editor.proofs.check.read_edit.Goals as goal

pub returns-in_ok-read_feature_body-in-Add-clause-ok : goal.returns-in_ok-read_feature_body-in-Add-clause-ok
returns-in_ok-read_feature_body-in-Add-clause-ok c =
    let P : Asked → Type 0 = λ a. AsksFor (wish_of a) (Add c.in_ok-read_feature_body-in-Add.field-0) in
    subst P (sym c.in-Add.is) (c.in_ok-read_feature_body-in-Add.field-0, refl, c.in_ok-read_feature_body-in-Add.ensures.ok)

pub returns-in_ok-read_feature_body-in-Replace-clause-ok : goal.returns-in_ok-read_feature_body-in-Replace-clause-ok
returns-in_ok-read_feature_body-in-Replace-clause-ok c =
    let P : Asked → Type 0 = λ a. AsksFor (wish_of a) (Replace c.in_ok-read_feature_body-in-Replace.field-0) in
    subst P (sym c.in-Replace.is) (c.in_ok-read_feature_body-in-Replace.field-0, refl, c.in_ok-read_feature_body-in-Replace.ensures.ok)

pub returns-in_ok-read_style_body-in-Restyle-clause-ok : goal.returns-in_ok-read_style_body-in-Restyle-clause-ok
returns-in_ok-read_style_body-in-Restyle-clause-ok c =
    let P : Asked → Type 0 = λ a. AsksFor (wish_of a) (Restyle c.in_ok-read_style_body-in-Restyle.field-0) in
    subst P (sym c.in-Restyle.is) (c.in_ok-read_style_body-in-Restyle.field-0, refl, c.in_ok-read_style_body-in-Restyle.ensures.ok)
