use Rattle.std.proofs.Common.{◌*◌, ◌^◌, rules, w64}
use Rattle.std.proofs.lemmas.Bool.{false≢true}
use Rattle.std.proofs.lemmas.Int.{to_z-of_z}
use Rattle.ml_tile.proofs.Middles.{half_some, near_world}
use Rattle.ml_tile.proofs.key.has_column.Goals as goal

pub returns-then-not-is_near : goal.returns-then-not-is_near
returns-then-not-is_near c = (
  λ t. absurd (false≢true t),
  λ h.
      let near = c.is_near.ensures.1 (rw (to_z-of_z w64 c.args.i c.ranges.i) (near_world c.args.i (512 * 2 ^ c.args.z) (half_some c.args.z) h)) in
      absurd (search rules),
)
