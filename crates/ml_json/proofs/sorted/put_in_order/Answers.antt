use Rattle.std.proofs.Common.{◌∙◌, ap}
use Rattle.ml_json.specs.Lent.{lent_of, lent_pairs_view}
use Rattle.ml_json.proofs.PlaceLemmas.{put_set, put_insert}
use Rattle.ml_json.proofs.sorted.put_in_order.Goals as goal

pub returns-in-Ok : goal.returns-in-Ok
returns-in-Ok c =
    let place = rw c.as_slice.ensures.value at c.in-Ok.ensures in
    put_set c.args.key c.args.value c.args.pairs.now.items c.in-Ok.place place.0 (place.1 (lent_of c.args.value))

pub returns-in_ok-insert-in-Err : goal.returns-in_ok-insert-in-Err
returns-in_ok-insert-in-Err c =
    let place = rw c.as_slice.ensures.value at c.in-Err.ensures in
    ap lent_pairs_view c.in_ok-insert-in-Err.ensures.items
    ∙ put_insert c.args.key c.args.value c.args.pairs.now.items c.in-Err.place (place.1 (lent_of c.args.value))
