use Rattle.ml_gaps.proofs.Nears.{apart_within, apart_of}
use Rattle.ml_gaps.proofs.near.Near.is_apart.Goals as goal

pub returns : goal.returns
returns c is a b u v one other s first second =
    apart_within a b u v c.args.self.now.last c.args.other.now.last c.lesser.result one.last other.last c.lesser.ensures.either
    (apart_of a b c.lesser.result c.is_apart.result is (rw (c.new.ensures.num_is, c.new.ensures.den_is) at (c.is_apart.ensures a b one.site other.site))) s first second
