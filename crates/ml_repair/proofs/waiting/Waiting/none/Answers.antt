use Rattle.std.proofs.Common.{◌≡◌, ℕ, ◌+◌, ◌/◌, ◌%◌, min, replicate, arith}
use Rattle.std.proofs.lemmas.List.{take-replicate}
use Rattle.ml_repair.proofs.Words.{waiting_none}
use Rattle.ml_repair.proofs.waiting.Waiting.none.Goals as goal

pub returns : goal.returns
returns c =
    let n : ℕ = c.div_ceil.result in
    let is : n ≡ c.args.many / 64 + min 1 (c.args.many % 64) = c.div_ceil.ensures in
    let clear : c.in_ok-words.words.items ≡ replicate n 0 = rw (take-replicate {X = ℕ} n 512 0 (omega arith)) at c.in_ok-words.ensures.items in
    rw clear (waiting_none n c.args.many (omega arith))
