use Rattle.std.proofs.Common.{◌≡◌, arith}
use Rattle.ml_cone.specs.Hull.{join, reach_of}
use Rattle.ml_cone.proofs.Hulls.{join_holds_first, join_holds_second, Holds-trans, reach_extent}
use Rattle.ml_cone.proofs.Outlines.{extent_join, begins_more, one_last}
use Rattle.ml_cone.proofs.outline.Outline.with.Goals as goal

pub invariant_of-result : goal.invariant_of-result
invariant_of-result c =
    record { extent = rw (c.joined.ensures, c.extent.ensures) (extent_join c.args.self.now.reach (reach_of c.args.label.now) c.args.self.now.extent (reach_extent c.args.label.now)) }

pub returns-clause-new : goal.returns-clause-new
returns-clause-new c = record {
  reach = rw (c.joined.ensures, c.extent.ensures) (join_holds_second c.args.self.now.reach (reach_of c.args.label.now));
  begins =
      let most = c.max.ensures in
      begins_more c.args.label.now.min.num c.args.label.now.min.den c.band.result c.max.result (omega arith) c.band.ensures.band.below;
  ends = λ k last.
      let first = c.min.ensures in
      let same : k ≡ c.last_band.result = one_last c.args.label.now k c.last_band.result last c.last_band.ensures in
      omega arith;
}

pub returns-clause-kept : goal.returns-clause-kept
returns-clause-kept c a h = record {
  reach = rw (c.joined.ensures) (Holds-trans (join c.args.self.now.reach c.extent.result) c.args.self.now.reach (reach_of a) (join_holds_first c.args.self.now.reach c.extent.result) h.reach);
  begins =
      let most = c.max.ensures in
      begins_more a.min.num a.min.den c.args.self.now.low c.max.result (omega arith) h.begins;
  ends = λ k last. (let first = c.min.ensures in let e = h.ends k last in omega arith);
}
