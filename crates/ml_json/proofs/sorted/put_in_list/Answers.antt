use Rattle.std.proofs.Common.{sym, subst}
use Rattle.ml_json.specs.Canonical.{IsAscending}
use Rattle.ml_json.specs.Lent.{lent_of, lent_pairs_view}
use Rattle.ml_json.proofs.Ascending.{ascending_put}
use Rattle.ml_json.proofs.sorted.put_in_list.Goals as goal

pub invariant_of-result : goal.invariant_of-result
invariant_of-result c = record {
  ascending = subst IsAscending (sym c.in_ok-put_in_order.ensures) (ascending_put c.args.key (lent_of c.args.value) (lent_pairs_view c.args.list.pairs.items) c.args.list.ascending);
}
