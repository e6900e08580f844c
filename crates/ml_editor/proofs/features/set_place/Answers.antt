use Rattle.std.proofs.Common.{◌∙◌, ap, sym}
use Rattle.std.specs.Map.{keys_of}
use Rattle.ml_editor.proofs.Numbers.{none_set}
use Rattle.ml_editor.proofs.features.set_place.Goals as goal

pub returns-in-None-clause-entries : goal.returns-in-None-clause-entries
returns-in-None-clause-entries c = ap (λ m. m.entries) c.get_mut.follows.holds-at-none ∙ sym (none_set c.args.number c.args.places.now.entries c.args.feature (sym c.in-None.ensures.value))

pub returns-in-None-clause-keys : goal.returns-in-None-clause-keys
returns-in-None-clause-keys c = ap (λ m. keys_of m.entries) c.get_mut.follows.holds-at-none
