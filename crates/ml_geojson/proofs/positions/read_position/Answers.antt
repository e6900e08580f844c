use Rattle.ml_geojson.proofs.RingLemmas.{no_position}
use Rattle.ml_geojson.proofs.positions.read_position.Goals as goal

pub returns-in_default : goal.returns-in_default
returns-in_default c = no_position c.args.k c.args.items.now c.in_default.len_below
