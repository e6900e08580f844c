use Rattle.std.proofs.Common.{◌≡◌, ◌∙◌, ap, refl, ◌*◌, ◌^◌, ◌<◌, ◌≤◌, lit≤, w64, to_z, of_z, rules, arith, FitsSigned}
use Rattle.std.proofs.Math.Nat.{pow-le-pow_right}
use Rattle.std.proofs.lemmas.Int.{to_z-of_z}
use Rattle.std.proofs.lemmas.Nat.{pow_pos}
use Rattle.ml_cone.specs.View.{IsWindowSide, AreViewParts}
use Rattle.ml_tile.specs.Place.{middle}
use Rattle.ml_tile.proofs.Middles.{half_some, near_world}
use Rattle.ml_tile.proofs.key.TileKey.view.Goals as goal

pub middle-cx-requires-clause-near : goal.middle-cx-requires-clause-near
middle-cx-requires-clause-near c =
    let k = c.args.self.now in
    let f : FitsSigned w64 k.i = search rules in
    rw (to_z-of_z w64 k.i f) (near_world k.i (512 * 2 ^ k.z) (half_some k.z) k.world_x)

pub middle-cy-requires-clause-near : goal.middle-cy-requires-clause-near
middle-cy-requires-clause-near c =
    let k = c.args.self.now in
    let f : FitsSigned w64 k.j = search rules in
    rw (to_z-of_z w64 k.j f) (near_world k.j (512 * 2 ^ k.z) (half_some k.z) k.world_y)

side : IsWindowSide 1024
side = record { some = lit≤ tt; low = lit≤ tt; even = refl }

pub unreachable-requires : goal.unreachable-requires
unreachable-requires c =
    let k = c.args.self.now in
    let fi : FitsSigned w64 k.i = search rules in
    let fj : FitsSigned w64 k.j = search rules in
    let fx : FitsSigned w64 c.middle-cx.result = search rules in
    let fy : FitsSigned w64 c.middle-cy.result = search rules in
    let ex : to_z w64 (of_z w64 c.middle-cx.result) ≡ middle k.z k.i = to_z-of_z w64 c.middle-cx.result fx ∙ c.middle-cx.ensures ∙ ap (middle k.z) (to_z-of_z w64 k.i fi) in
    let ey : to_z w64 (of_z w64 c.middle-cy.result) ≡ middle k.z k.j = to_z-of_z w64 c.middle-cy.result fy ∙ c.middle-cy.ensures ∙ ap (middle k.z) (to_z-of_z w64 k.j fj) in
    let low : 2 ^ k.z ≤ 2 ^ 21 = pow-le-pow_right (omega arith) k.deep in
    let some : 0 < 2 ^ k.z = pow_pos k.z in
    let num = c.scale_of-scale.ensures.num in
    let den = c.scale_of-scale.ensures.den in
    c.in-None.ensures (record {
      world_x = rw ex k.world_x;
      world_y = rw ey k.world_y;
      width = side;
      height = side;
      above = rw num some;
      below = rw (num, den) (omega arith);
    })
