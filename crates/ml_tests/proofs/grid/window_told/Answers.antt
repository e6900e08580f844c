use Rattle.std.proofs.Common.{◌≡◌, ◌∙◌, ap, arith, List, [], subst}
use Rattle.std.specs.Prelude.{Contains}
use Rattle.ml_grid.specs.Entry.{Entry, Kept, IsFree}
use Rattle.ml_tests.proofs.grid.window_told.Goals as goal

-- in a grid without entries each number is free
none_there : (entries : List Entry) → entries ≡ [] → IsFree 7 entries
none_there entries is e there same = let h = subst (λ (es : List Entry). Contains es e) is there in absurd (omega (arith, h.1))

pub drop_label-requires : goal.drop_label-requires
drop_label-requires g c =
    let none = c.reserve.ensures.same ∙ ap (λ (k : Kept). k.entries) c.new-grid.ensures in
    record { begins = c.requires; its = c.added_are_its.ensures 7 c.args.label.now c.args.span.now.until _ _ (none_there _ none) c.add.ensures.entries }
