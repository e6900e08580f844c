use Rattle.std.proofs.Common.{◌≡◌, ℕ, ◌+◌, ◌*◌, ◌%◌, ◌^◌, ◌≤◌, arith, pos, w64, to_z, ap, ◌∙◌}
use Rattle.std.proofs.Math.Nat.{pow-le-pow_right}
use Rattle.std.proofs.lemmas.Int.{to_z_pos}
use Rattle.std.proofs.lemmas.Nat.{shl_whole, pow-add}
use Rattle.ml_cone.proofs.cells.pixel_of.Goals as goal

-- a pixel of a band up to 27 fits
shifted : (k : ℕ) → k ≤ 27 → to_z w64 (2 * 2 ^ k % 2 ^ 64) ≡ pos (2 ^ (k + 1))
shifted k h =
    let low : 2 ^ k ≤ 2 ^ 27 = pow-le-pow_right (omega arith) h in
    let whole : 2 * 2 ^ k % 2 ^ 64 ≡ 2 * 2 ^ k = shl_whole 2 2 k 64 (omega arith) (omega arith) in
    let same : 2 * 2 ^ k ≡ 2 ^ (k + 1) = (let e = pow-add 2 k 1 in omega arith) in
    ap (to_z w64) whole ∙ to_z_pos w64 (2 * 2 ^ k) (omega arith) ∙ ap pos same

pub returns : goal.returns
returns c = shifted c.args.band c.requires
