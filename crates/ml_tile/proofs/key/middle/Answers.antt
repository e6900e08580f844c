use Rattle.std.proofs.Common.{◌∙◌, rules, w64, ℤ, pos, ◌+ℤ◌, ◌*ℤ◌, ◌*◌, ◌^◌, FitsSigned}
use Rattle.std.proofs.lemmas.Int.{to_z-of_z}
use Rattle.ml_tile.proofs.Middles.{half_low, odd_fits, twice_fits, middle_fits}
use Rattle.ml_tile.proofs.key.middle.Goals as goal

pub overflow_mul-result : goal.overflow_mul-result
overflow_mul-result c =
    let fi : FitsSigned w64 c.args.i = c.ranges.i in
    let ft : FitsSigned w64 (pos 2 *ℤ c.args.i) = twice_fits c.args.i c.requires.near in
    let fo : FitsSigned w64 ((pos 2 *ℤ c.args.i) +ℤ pos 1) = odd_fits c.args.i c.requires.near in
    let fp : FitsSigned w64 c.half_of.result = search rules in
    simp to_z-of_z (rw c.half_of.ensures (middle_fits c.args.i (512 * 2 ^ c.args.z) c.requires.near (half_low c.args.z c.requires.deep)))

pub returns : goal.returns
returns c =
    let fi : FitsSigned w64 c.args.i = c.ranges.i in
    let ft : FitsSigned w64 (pos 2 *ℤ c.args.i) = twice_fits c.args.i c.requires.near in
    let fo : FitsSigned w64 ((pos 2 *ℤ c.args.i) +ℤ pos 1) = odd_fits c.args.i c.requires.near in
    let fp : FitsSigned w64 c.half_of.result = search rules in
    let fm : FitsSigned w64 (((pos 2 *ℤ c.args.i) +ℤ pos 1) *ℤ c.half_of.result) =
    rw c.half_of.ensures (middle_fits c.args.i (512 * 2 ^ c.args.z) c.requires.near (half_low c.args.z c.requires.deep)) in
    simp to_z-of_z (rw c.half_of.ensures (search rules))
