use Rattle.std.proofs.Common.{Bool, rules}
use Rattle.std.proofs.lemmas.List.Sorted.{IsPartitionPoint-from_clause}
use Rattle.ml_conflict.specs.declared.spot.Spot.{Spot}
use Rattle.ml_conflict.proofs.Putting.{is_south, south_parted, less_of, most_of}
use Rattle.ml_conflict.proofs.strip.south_of.Goals as goal

pub returns-clause-south : goal.returns-clause-south
returns-clause-south c k d from lt =
    let test : Spot → Bool = is_south c.args.y in
    let parted = south_parted c.args.spots.now c.args.y c.requires.rising in
    let point = IsPartitionPoint-from_clause test c.args.spots.now c.partition_point.result c.partition_point.ensures.partitioned parted (λ a r f' k. search rules) in
    less_of _ _ (point.0 k d from lt)

pub returns-clause-north : goal.returns-clause-north
returns-clause-north c k d from lt =
    let test : Spot → Bool = is_south c.args.y in
    let parted = south_parted c.args.spots.now c.args.y c.requires.rising in
    let point = IsPartitionPoint-from_clause test c.args.spots.now c.partition_point.result c.partition_point.ensures.partitioned parted (λ a r f' k. search rules) in
    most_of _ _ (point.1 k d from lt)
