use Rattle.std.proofs.Common.{◌≡◌, ◌+◌, ◌≤◌, ◌⊎◌, inl, inr, arith}
use Rattle.std.proofs.lemmas.Bool.{cases_lt}
use Rattle.ml_repair.proofs.Gathering.{clear_bands}
use Rattle.ml_repair.proofs.gather.is_clear.Goals as goal

pub returns : goal.returns
returns c holds =
    let least = c.min.ensures in
    let wide : (c.min.result ≡ c.args.band + 3) ⊎ (27 ≤ c.min.result) = elim (cases_lt (c.args.band + 3) 27) [
      | inl low ↦ inl (omega arith)
      | inr high ↦ inr (omega arith)
    ] in
    clear_bands c.args.sought.now.roster.now c.args.sought.now.moves.now c.args.sought.now.low.now c.args.sought.now.place c.args.band c.min.result
    c.start_of-scale.result wide (c.is_clear.ensures holds) c.start_of-scale.ensures.first c.start_of-scale.ensures.num c.start_of-scale.ensures.den
