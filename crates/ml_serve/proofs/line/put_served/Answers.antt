use Rattle.std.proofs.Common.{codes, ◌++◌}
use Rattle.std.specs.Fmt.{decimal}
use Rattle.ml_serve.proofs.line.put_served.Goals as goal

pub returns-in-Err-clause-err : goal.returns-in-Err-clause-err
returns-in-Err-clause-err g c = c.part_of_more.ensures _ _ (codes "served ") (decimal c.args.number ++ codes "\n") c.in-Err.ensures.err

pub returns-in-Err-put_number-clause-err : goal.returns-in-Err-put_number-clause-err
returns-in-Err-put_number-clause-err g c =
    c.part_of_more.ensures _ _ (codes "served " ++ decimal c.args.number) (codes "\n")
    (c.append_part_after.ensures _ _ _ (codes "served ") (decimal c.args.number) c.in-Ok.ensures.ok c.in-Err-put_number.ensures.err)

pub returns-in-Err-put_all-clause-err : goal.returns-in-Err-put_all-clause-err
returns-in-Err-put_all-clause-err g c =
    c.append_part_after.ensures _ _ _ (codes "served " ++ decimal c.args.number) (codes "\n")
    (c.append_twice.ensures _ _ _ (codes "served ") (decimal c.args.number) c.in-Ok.ensures.ok c.in-Ok-put_number.ensures.ok) c.in-Err-put_all.ensures.err
