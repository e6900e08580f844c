use Rattle.std.proofs.Common.{rules, ◌≡◌, ◌-ℤ◌, ◌*ℤ◌}
use Rattle.std.proofs.lemmas.Int.{to_z-of_z}
use Rattle.ml_ratio.specs.Floor.{floor}
use Rattle.ml_ratio.proofs.Floors.{inputs_fit, rise_is}
use Rattle.ml_ratio.proofs.rounding.height_at.Goals as goal

pub overflow_mul-climb : goal.overflow_mul-climb
overflow_mul-climb c =
    let k = inputs_fit c.args.from.0 c.args.from.1 c.args.to.0 c.args.to.1 c.args.t c.requires.from_world c.requires.to_world (search rules) (search rules) c.ranges.t in
    simp (to_z-of_z, k.u_narrow, k.v_narrow, k.z_narrow, k.t_narrow, k.u_wide, k.v_wide, k.z_wide, k.t_wide, k.climb, k.along) k.product

pub overflow_add-height : goal.overflow_add-height
overflow_add-height c =
    let k = inputs_fit c.args.from.0 c.args.from.1 c.args.to.0 c.args.to.1 c.args.t c.requires.from_world c.requires.to_world (search rules) (search rules) c.ranges.t in
    let e : c.floor_of-rise.result ≡ floor ((c.args.to.1 -ℤ c.args.from.1) *ℤ (c.args.t -ℤ c.args.from.0)) (c.args.to.0 -ℤ c.args.from.0) =
    simp (to_z-of_z, k.u_narrow, k.v_narrow, k.w_narrow, k.z_narrow, k.t_narrow, k.u_wide, k.v_wide, k.w_wide, k.z_wide, k.t_wide, k.climb, k.along, k.whole, k.product)
    at c.floor_of-rise.ensures.value in
    let r = rise_is c.args.from.0 c.args.from.1 c.args.to.0 c.args.to.1 c.args.t c.floor_of-rise.result
    c.requires.after c.requires.before c.requires.apart c.requires.from_world c.requires.to_world e in
    simp (to_z-of_z, k.v_narrow, k.v_wide, r.rise_wide) r.sum_wide

pub overflow_cast-result : goal.overflow_cast-result
overflow_cast-result c =
    let k = inputs_fit c.args.from.0 c.args.from.1 c.args.to.0 c.args.to.1 c.args.t c.requires.from_world c.requires.to_world (search rules) (search rules) c.ranges.t in
    let e : c.floor_of-rise.result ≡ floor ((c.args.to.1 -ℤ c.args.from.1) *ℤ (c.args.t -ℤ c.args.from.0)) (c.args.to.0 -ℤ c.args.from.0) =
    simp (to_z-of_z, k.u_narrow, k.v_narrow, k.w_narrow, k.z_narrow, k.t_narrow, k.u_wide, k.v_wide, k.w_wide, k.z_wide, k.t_wide, k.climb, k.along, k.whole, k.product)
    at c.floor_of-rise.ensures.value in
    let r = rise_is c.args.from.0 c.args.from.1 c.args.to.0 c.args.to.1 c.args.t c.floor_of-rise.result
    c.requires.after c.requires.before c.requires.apart c.requires.from_world c.requires.to_world e in
    simp (to_z-of_z, k.v_narrow, k.v_wide, r.rise_wide, r.sum_wide) r.sum_narrow

pub returns-clause-value : goal.returns-clause-value
returns-clause-value c =
    let k = inputs_fit c.args.from.0 c.args.from.1 c.args.to.0 c.args.to.1 c.args.t c.requires.from_world c.requires.to_world (search rules) (search rules) c.ranges.t in
    let e : c.floor_of-rise.result ≡ floor ((c.args.to.1 -ℤ c.args.from.1) *ℤ (c.args.t -ℤ c.args.from.0)) (c.args.to.0 -ℤ c.args.from.0) =
    simp (to_z-of_z, k.u_narrow, k.v_narrow, k.w_narrow, k.z_narrow, k.t_narrow, k.u_wide, k.v_wide, k.w_wide, k.z_wide, k.t_wide, k.climb, k.along, k.whole, k.product)
    at c.floor_of-rise.ensures.value in
    let r = rise_is c.args.from.0 c.args.from.1 c.args.to.0 c.args.to.1 c.args.t c.floor_of-rise.result
    c.requires.after c.requires.before c.requires.apart c.requires.from_world c.requires.to_world e in
    simp (to_z-of_z, k.v_narrow, k.v_wide, r.rise_wide, r.sum_wide, r.sum_narrow) r.height

pub returns-clause-world : goal.returns-clause-world
returns-clause-world c =
    let k = inputs_fit c.args.from.0 c.args.from.1 c.args.to.0 c.args.to.1 c.args.t c.requires.from_world c.requires.to_world (search rules) (search rules) c.ranges.t in
    let e : c.floor_of-rise.result ≡ floor ((c.args.to.1 -ℤ c.args.from.1) *ℤ (c.args.t -ℤ c.args.from.0)) (c.args.to.0 -ℤ c.args.from.0) =
    simp (to_z-of_z, k.u_narrow, k.v_narrow, k.w_narrow, k.z_narrow, k.t_narrow, k.u_wide, k.v_wide, k.w_wide, k.z_wide, k.t_wide, k.climb, k.along, k.whole, k.product)
    at c.floor_of-rise.ensures.value in
    let r = rise_is c.args.from.0 c.args.from.1 c.args.to.0 c.args.to.1 c.args.t c.floor_of-rise.result
    c.requires.after c.requires.before c.requires.apart c.requires.from_world c.requires.to_world e in
    simp (to_z-of_z, k.v_narrow, k.v_wide, r.rise_wide, r.sum_wide, r.sum_narrow) r.world
