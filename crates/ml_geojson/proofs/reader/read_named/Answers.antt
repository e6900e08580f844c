use Rattle.ml_json.specs.Lent.{lent_of}
use Rattle.ml_geojson.proofs.FaultLemmas.{read_refused}
use Rattle.ml_geojson.proofs.reader.read_named.Goals as goal

pub returns-in-Err : goal.returns-in-Err
returns-in-Err c = read_refused (lent_of c.args.json.now) c.in-Err.fault c.in-Err.ensures
