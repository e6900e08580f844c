use Rattle.ml_repair.proofs.Answered.{if_ok}
use Rattle.ml_repair.proofs.Gathering.{sifted_early, sifted_number, sifted_absent}
use Rattle.ml_repair.proofs.gather.sift_moved_one.Goals as goal

pub returns-then-not-is_less : goal.returns-then-not-is_less
returns-then-not-is_less c =
    sifted_early c.args.sought.now c.args.moved.now.number c.args.moved.now.slot c.args.bound c.args.out.now c.requires (rw c.min.ensures at c.if-not-is_less.ensures)

pub returns-in-Some : goal.returns-in-Some
returns-in-Some c =
    if_ok c.sift_one.result _ _ (λ next are.
    sifted_number c.args.sought.now c.args.moved.now.number c.in-Some.place c.args.out.now c.sift_one.new.out
    c.args.bound next c.in-Some.ensures.numbered.differ c.in-Some.ensures.place are) c.sift_one.ensures

pub returns-in-None : goal.returns-in-None
returns-in-None c = sifted_absent c.args.sought.now c.args.moved.now.number c.args.bound c.args.out.now c.in-None.ensures.place
