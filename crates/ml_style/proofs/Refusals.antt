-- The refusal of a part is that of the whole.
use Rattle.std.proofs.Common.{List, [], ◌∷◌, ◌++◌}
use Rattle.ml_style.specs.Faults.{Refuses}
use Rattle.ml_style.specs.declared.fault.StyleFault.{StyleFault}
use Rattle.ml_style.specs.declared.fault.StyleFault.TheVariants.{NotToml, Version, BadFont, BadClass, UnknownFont, EmptyRange, Memory}

-- the refusal of some faults is that of more behind them
pub refuses_on : (e : StyleFault) (faults rest : List StyleFault) → Refuses e faults → Refuses e (faults ++ rest)
refuses_on Memory faults rest h = tt
refuses_on NotToml faults rest h = absurd h
refuses_on Version [] rest h = absurd cc
refuses_on Version (f ∷ fs) rest h = h
refuses_on (BadFont name) [] rest h = absurd cc
refuses_on (BadFont name) (f ∷ fs) rest h = h
refuses_on (BadClass k field) [] rest h = absurd cc
refuses_on (BadClass k field) (f ∷ fs) rest h = h
refuses_on (UnknownFont k) [] rest h = absurd cc
refuses_on (UnknownFont k) (f ∷ fs) rest h = h
refuses_on (EmptyRange k) [] rest h = absurd cc
refuses_on (EmptyRange k) (f ∷ fs) rest h = h
