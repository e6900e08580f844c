use Rattle.std.proofs.Common.{ℕ, ◌*◌, ◌/◌, ◌^◌, ◌<◌, ◌≤◌, arith, inl, inr}
use Rattle.std.proofs.Math.Nat.{pow-le-pow_right}
use Rattle.std.proofs.lemmas.Bool.{cases_lt}
use Rattle.std.proofs.lemmas.Nat.{mul-le, div-add-mod'}
use Rattle.ml_ratio.proofs.ratio.Ratio.band.Goals as goal

-- a power of two that is at most n / d, where n / d is below 2^28
low_power : (r n d : ℕ) → 2 ^ r ≤ n / d → n < 2 ^ 28 * d → r < 28
low_power r n d h k =
    elim (cases_lt r 28) [
      | inl less ↦ less
      | inr more ↦
          let p : 2 ^ 28 ≤ 2 ^ r = pow-le-pow_right (omega arith) more in
          let q : 2 ^ 28 * d ≤ n / d * d = mul-le (2 ^ 28) d (n / d) d (omega arith) (omega arith) in
          absurd (omega (arith, div-add-mod' n d))
    ]

pub returns-else-whole-lt2-clause-low : goal.returns-else-whole-lt2-clause-low
returns-else-whole-lt2-clause-low c below = low_power c.ilog2.result c.args.self.now.num c.args.self.now.den c.ilog2.ensures.power_le below
