use Rattle.std.proofs.Common.{rules}
use Rattle.std.proofs.lemmas.List.Sorted.{IsPartitionPoint-from_clause}
use Rattle.ml_ratio.specs.Fraction.{value_of}
use Rattle.ml_flight.specs.Sweep.{is_ended}
use Rattle.ml_flight.proofs.Counting.{parted_at}
use Rattle.ml_flight.proofs.Sweeping.{ends_parted}
use Rattle.ml_flight.proofs.highest.ended_by.Goals as goal

pub returns : goal.returns
returns c =
    let test = is_ended (value_of c.args.mark.now) in
    let parted = ends_parted c.args.ends.now (value_of c.args.mark.now) c.requires in
    parted_at test c.args.ends.now c.partition_point.result parted c.partition_point.ensures.bound
    (IsPartitionPoint-from_clause test c.args.ends.now c.partition_point.result c.partition_point.ensures.partitioned parted (λ a r f' k. search rules))
    c.args.mark.now
