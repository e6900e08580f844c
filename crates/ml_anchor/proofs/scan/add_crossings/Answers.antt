use Rattle.std.proofs.Common.{◌≡◌, ◌++◌, ℤ, subst, ap, ◌∙◌, Option, arith, w64, to_z, of_z}
use Rattle.std.proofs.lemmas.Int.{to_z-of_z}
use Rattle.std.specs.Option.{option_to_list}
use Rattle.ml_anchor.specs.Scan.{ring_crossings}
use Rattle.ml_anchor.proofs.ScanLemmas.{edges_more, edges_all}
use Rattle.ml_anchor.proofs.scan.add_crossings.Goals as goal

pub loop-i-preserved : goal.loop-i-preserved
loop-i-preserved c =
    let e = c.in_ok-add.ensures in
    e ∙ (ap (λ (o : Option ℤ). c.loop-i.found.items ++ option_to_list o) c.crossing.ensures
    ∙ edges_more (to_z w64 (of_z w64 c.args.h)) c.args.ring.now c.loop-i.i c.index-ring-i.result c.index-ring-i-in-loop-i.result
    c.args.found.now.items c.loop-i.found.items (omega arith) (omega arith) c.index-ring-i.is c.index-ring-i-in-loop-i.is c.loop-i.invariant)

pub returns : goal.returns
returns c =
    subst (λ (z : ℤ). c.loop-i.found.items ≡ c.args.found.now.items ++ ring_crossings z c.args.ring.now) (to_z-of_z w64 c.args.h c.ranges.h) (
    edges_all (to_z w64 (of_z w64 c.args.h)) c.args.ring.now c.loop-i.i c.args.found.now.items c.loop-i.found.items c.loop-i-test.false c.loop-i.invariant)
