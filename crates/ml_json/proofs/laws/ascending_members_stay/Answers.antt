use Rattle.ml_json.proofs.SortedPairs.{ascending_stays}
use Rattle.ml_json.proofs.laws.ascending_members_stay.Goals as goal

pub returns : goal.returns
returns c = ascending_stays
