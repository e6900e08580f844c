use Rattle.std.proofs.Common.{◌∙◌, ◌<◌, sym, ap, arith, get_or, length}
use Rattle.ml_cone.specs.Slots.{Rival}
use Rattle.ml_store.specs.declared.row.Row.{Row}
use Rattle.ml_repair.proofs.Present.{chosen_is}
use Rattle.std.proofs.lemmas.List.{length-map}
use Rattle.ml_repair.specs.Repair.{rival_in}
use Rattle.ml_repair.proofs.chosen.ChosenRivalList.label.Goals as goal

pub returns : goal.returns
returns c d =
    let s = c.args.self.now in
    let n = length-map s.places.now (rival_in s.roster.now s.moves.now s.low.now) in
    let lt : c.args.k < length s.places.now = (let h = c.requires in omega arith) in
    let p = get_or s.places.now c.args.k 0 in
    let in' : p < length s.roster.now = s.in_roster c.args.k 0 lt in
    let r : Row = c.row-row.result.now in
    sym (ap (λ (x : Rival). x.label) (chosen_is s.roster.now s.moves.now s.low.now s.places.now c.args.k d lt) ∙ c.row-row.ensures.label s.low.now)
