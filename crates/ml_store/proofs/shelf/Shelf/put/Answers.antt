use Rattle.std.proofs.Common.{Some}
use Rattle.std.proofs.lemmas.List.{map-set}
use Rattle.ml_store.specs.Shelf.{unboxed_one}
use Rattle.ml_store.proofs.shelf.Shelf.put.Goals as goal

pub returns-clause-row : goal.returns-clause-row
returns-clause-row c = rw (← c.self.view_is) (map-set unboxed_one c.self.inside.places.items c.args.number (Some c.args.row))
