use Rattle.std.proofs.Common.{arith, ap, ◌∙◌, sym}
use Rattle.std.proofs.lemmas.Bool.Decides.{nat_tests}
use Rattle.ml_geojson.specs.Positions.{then_read, closed, long_ring}
use Rattle.ml_geojson.proofs.RingLemmas.{short, long}
use Rattle.ml_geojson.proofs.positions.read_ring.Goals.{else-len-gt0-via-then-len-gt0+else-len-lt4, else-len-gt0-via-else-len-gt0}
use Rattle.ml_geojson.proofs.positions.read_ring.Goals as goal

pub returns-then-len-lt4-clause-places : goal.returns-then-len-lt4-clause-places
returns-then-len-lt4-clause-places c =
    ap (then_read (λ places. long_ring c.args.k (closed places))) c.in-Ok.ensures ∙ ap (long_ring c.args.k) (sym c.in_ok-close-in-Ok.ensures.places)
    ∙ short c.args.k c.close.new.ring (grind (arith, nat_tests)) (grind (arith, nat_tests))

pub returns-else-len-gt0-clause-places : goal.returns-else-len-gt0-clause-places
returns-else-len-gt0-clause-places c =
    ap (then_read (λ places. long_ring c.args.k (closed places))) c.in-Ok.ensures ∙ ap (long_ring c.args.k) (sym c.in_ok-close-in-Ok.ensures.places)
    ∙ long c.args.k c.close.new.ring
    (elim c.else-len-gt0.branch [ else-len-gt0-via-then-len-gt0+else-len-lt4 w ↦ λ some. grind (arith, nat_tests) | else-len-gt0-via-else-len-gt0 w ↦ λ some. grind (arith, nat_tests) ])
