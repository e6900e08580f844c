use Rattle.std.proofs.Common.{sym, subst}
use Rattle.std.specs.Prelude.{codes}
use Rattle.ml_json.specs.Lent.{lent_pairs_view}
use Rattle.ml_geojson.specs.Collection.{IsSomeOrderly}
use Rattle.ml_geojson.proofs.PropLemmas.{member_good}
use Rattle.ml_geojson.proofs.reader.read_collected.Goals as goal

pub read_listed-requires : goal.read_listed-requires
read_listed-requires c = subst IsSomeOrderly (sym c.member-then-is_text.ensures) (member_good (codes "features") (lent_pairs_view c.args.pairs.now) c.requires.1)
