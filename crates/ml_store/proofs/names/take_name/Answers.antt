use Rattle.std.proofs.Common.{get_or}
use Rattle.std.proofs.lemmas.List.{get_or_default}
use Rattle.std.proofs.lemmas.List.Elements.{Contains-get_or}
use Rattle.ml_store.specs.Names.{Name, names_in}
use Rattle.ml_store.proofs.Naming.{unique_names, name_gone}
use Rattle.ml_store.proofs.ByName.{found_at, named_out}
use Rattle.ml_store.proofs.names.take_name.Goals as goal
use Rattle.ml_ratio.proofs.lemmas.Lists.{added_remove}

pub remove-requires : goal.remove-requires
remove-requires c =
    let rows = c.args.rows.now in
    let own = unique_names rows c.requires.differ in
    let live = c.requires.live in
    let here = found_at (names_in rows) c.args.ids.now own c.requires.by_name c.args.id.now c.id_place-at.result live.0 c.id_place-at.ensures live.1 live.2 in
    record { is_place = here.0 }

pub returns : goal.returns
returns c = record {
  by_name = λ at d lt same.
      let rows = c.args.rows.now in
      let own = unique_names rows c.requires.differ in
      let name : Name = get_or (names_in rows) at d in
      let here = found_at (names_in rows) c.args.ids.now own c.requires.by_name c.args.id.now c.id_place-at.result name c.id_place-at.ensures (Contains-get_or (names_in rows) at d lt) same in
      rw c.remove.ensures
      (named_out (names_in rows) c.args.ids.now own c.requires.by_name name c.id_place-at.result _ here.0 here.1
      (name_gone rows at d c.requires.differ lt) (added_remove (names_in rows) at name lt (get_or_default (names_in rows) at d name lt)));
}
