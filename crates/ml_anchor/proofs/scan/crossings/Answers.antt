use Rattle.std.proofs.Common.{◌≡◌, ℤ, subst, w64, to_z, of_z}
use Rattle.std.proofs.lemmas.Int.{to_z-of_z}
use Rattle.ml_anchor.specs.Scan.{crossings}
use Rattle.ml_anchor.proofs.ScanLemmas.{rings_all}
use Rattle.ml_anchor.proofs.scan.crossings.Goals as goal

pub returns : goal.returns
returns c =
    subst (λ (z : ℤ). c.loop-ring.found.items ≡ crossings z c.args.rings.now) (to_z-of_z w64 c.args.h c.ranges.h) (
    rings_all (to_z w64 (of_z w64 c.args.h)) c.args.rings.now c.loop-ring.ring-index c.loop-ring.found.items c.loop-ring-test.false c.loop-ring.invariant)
