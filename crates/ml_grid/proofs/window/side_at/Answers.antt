use Rattle.std.proofs.Common.{◌≡◌, ◌∙◌, ap, ℕ, ◌*◌, ◌%◌, ◌^◌, ◌≤◌, arith, w64, pos, to_z}
use Rattle.std.proofs.Math.Nat.{pow-le-pow_right}
use Rattle.std.proofs.lemmas.Int.{to_z_pos}
use Rattle.std.proofs.lemmas.Nat.{shl_whole, mul-le}
use Rattle.ml_cone.specs.Cells.{cell_side}
use Rattle.ml_grid.proofs.window.side_at.Goals as goal

side_back : (k d n : ℕ) → k ≤ 27 → d ≤ 2 ^ 16 → n ≡ d → to_z w64 (1024 * 2 ^ k % 2 ^ 64 * n) ≡ pos (cell_side k * d)
side_back k d n low few is =
    let p : 2 ^ k ≤ 2 ^ 27 = pow-le-pow_right (omega arith) low in
    let whole : 1024 * 2 ^ k % 2 ^ 64 ≡ 1024 * 2 ^ k = shl_whole 1024 11 k 64 (omega arith) (omega arith) in
    let q = mul-le (1024 * 2 ^ k) d (1024 * 2 ^ 27) (2 ^ 16) (omega arith) few in
    let e : 1024 * 2 ^ k % 2 ^ 64 * n ≡ 1024 * 2 ^ k * d = ap (λ (t : ℕ). t * n) whole ∙ ap (λ (t : ℕ). 1024 * 2 ^ k * t) is in
    ap (to_z w64) e ∙ to_z_pos w64 (1024 * 2 ^ k * d) (omega arith)

pub returns : goal.returns
returns c = record { is = side_back c.args.band c.args.scale.now.den c.den.result c.requires c.args.scale.now.low_den c.den.ensures }
