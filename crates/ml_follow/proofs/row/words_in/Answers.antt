use Rattle.std.proofs.Common.{[], ℕ, List, Bor}
use Rattle.ml_follow.proofs.Rows.{eight_taken}
use Rattle.ml_follow.proofs.row.words_in.Goals as goal

pub returns-in-len8-up : goal.returns-in-len8-up
returns-in-len8-up c =
    let none : Bor (List ℕ) = record { ref_ptr = (0, 0); now = [] } in
    eight_taken c.args.words.now none c.in-len8-up.len_at_least
