use Rattle.std.proofs.Common.{◌≡◌, drop}
use Rattle.ml_json.specs.Lent.{lent_pairs_view}
use Rattle.ml_geojson.specs.Members.{member}
use Rattle.ml_geojson.proofs.members.member.Given as goal

abbrev pub invariant-loop-pair : goal.invariant-loop-pair
invariant-loop-pair l = member l.key (lent_pairs_view l.pairs) ≡ member l.key (lent_pairs_view (drop l.pair-index l.pairs))
