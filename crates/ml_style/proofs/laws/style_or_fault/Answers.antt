use Rattle.std.proofs.Common.{◌≡◌, ℕ, List, None, refl, sym, ap, ◌∙◌}
use Rattle.ml_style.specs.Faults.{first}
use Rattle.ml_style.specs.StyleTable.{IsStyle, IsFirstFault, style_faults}
use Rattle.ml_style.specs.Answer.{IsRefusal}
use Rattle.ml_style.specs.declared.fault.StyleFault.{StyleFault}
use Rattle.ml_style.specs.declared.fault.StyleFault.TheVariants.{NotToml, Version, BadFont, BadClass, UnknownFont, EmptyRange, Memory}
use Rattle.ml_style.specs.declared.style.Style.{Style}
use Rattle.ml_style.proofs.laws.style_or_fault.Goals as goal

-- a style has no first fault
no_fault : (bytes : List ℕ) (style : Style) (fault : StyleFault) → IsStyle bytes style → IsFirstFault bytes fault → ⊥
no_fault bytes style fault (table, reads, faultless, made) (other, reads_other, faulty) =
    let same : table ≡ other = cc in
    let none : first (style_faults other) ≡ None = ap (λ t. first (style_faults t)) (sym same) ∙ ap first faultless in
    absurd cc

by_fault : (bytes : List ℕ) (style : Style) (fault : StyleFault) → IsStyle bytes style → IsRefusal bytes fault → fault ≡ Memory
by_fault bytes style NotToml accepted refused = absurd (refused accepted.0 accepted.1)
by_fault bytes style Version accepted refused = absurd (no_fault bytes style Version accepted refused)
by_fault bytes style (BadFont name) accepted refused = absurd (no_fault bytes style (BadFont name) accepted refused)
by_fault bytes style (BadClass k field) accepted refused = absurd (no_fault bytes style (BadClass k field) accepted refused)
by_fault bytes style (UnknownFont k) accepted refused = absurd (no_fault bytes style (UnknownFont k) accepted refused)
by_fault bytes style (EmptyRange k) accepted refused = absurd (no_fault bytes style (EmptyRange k) accepted refused)
by_fault bytes style Memory accepted refused = refl

pub returns : goal.returns
returns c = by_fault
