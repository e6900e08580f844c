use Rattle.std.proofs.Common.{refl, inl}
use Rattle.ml_grid.proofs.keep.move_one.Goals as goal

pub set_end-there-requires : goal.set_end-there-requires
set_end-there-requires c = record { place = λ other there. inl (rw c.of-old.ensures ((c.requires.its other).0 there)) }

pub returns-clause-entries : goal.returns-clause-entries
returns-clause-entries c =
    let yes = c.set_end-there.ensures.there.1 (rw c.of-old.ensures ((c.requires.its c.args.from.now).1 refl)) in
    rw (yes, c.of-old.ensures, c.of-new.ensures) at c.set_end-there.ensures.members
