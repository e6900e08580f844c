use Rattle.std.proofs.Common.{None}
use Rattle.std.proofs.lemmas.List.{map-set}
use Rattle.ml_store.specs.Shelf.{unboxed_one}
use Rattle.ml_store.proofs.shelf.Shelf.take.Goals as goal

pub returns-clause-gone : goal.returns-clause-gone
returns-clause-gone c = rw (← c.self.view_is, c.take.ensures.after) (map-set unboxed_one c.self.inside.places.items c.args.number None)
