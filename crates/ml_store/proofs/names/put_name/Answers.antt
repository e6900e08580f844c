use Rattle.ml_store.specs.Names.{Name, names_in}
use Rattle.ml_store.proofs.Naming.{unique_names}
use Rattle.ml_store.proofs.Listing.{number_listed}
use Rattle.ml_store.proofs.ByName.{named_in}
use Rattle.ml_store.proofs.names.put_name.Goals as goal

pub insert-requires-clause-free : goal.insert-requires-clause-free
insert-requires-clause-free c there = c.requires.fresh (number_listed c.args.rows.now c.args.ids.now c.args.number c.requires.differ c.requires.by_name there)

pub returns : goal.returns
returns c =
    let rows = c.args.rows.now in
    let own = unique_names rows c.requires.differ in
    let name : Name = record { number = c.args.number; id = c.args.id.now } in
    record {
      by_name = λ names added. rw c.insert.ensures.inserted
          (named_in (names_in rows) c.args.ids.now own c.requires.by_name name c.id_place-at.result names c.id_place-at.ensures c.requires.new added);
    }
