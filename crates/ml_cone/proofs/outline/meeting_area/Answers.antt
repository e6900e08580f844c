use Rattle.std.proofs.Common.{◌≡◌, refl, arith, w32, ℤ, pos, negsuc, ◌≤ℤ◌, ◌-ℤ◌, FitsSigned, to_z, of_z}
use Rattle.std.proofs.lemmas.Int.{ints, to_z-of_z}
use Rattle.ml_cone.specs.Hull.{IsStretch}
use Rattle.ml_cone.specs.Plane.{IsReach}
use Rattle.ml_cone.proofs.outline.meeting_area.Goals as goal

-- at most 576 to either hand
abbrev IsNear : ℤ → Type 0
IsNear u = (negsuc 575 ≤ℤ u) × (u ≤ℤ pos 576)

ends : (l r : ℤ) → IsStretch l r → IsNear l × IsNear r
ends l r h = let a = h.from in let b = h.left in let d = h.right in let e = h.until in ((omega (arith, ints), omega (arith, ints)), (omega (arith, ints), omega (arith, ints)))

gap_reach : (u v : ℤ) → IsNear u → IsNear v → IsReach (u -ℤ v)
gap_reach u v h k = let a = h.0 in let b = h.1 in let d = k.0 in let e = k.1 in (omega (arith, ints), omega (arith, ints))

near_fits : (u : ℤ) → IsNear u → FitsSigned w32 u
near_fits u h = let a = h.0 in let b = h.1 in omega (arith, ints)

gap_fits : (u v : ℤ) → IsNear u → IsNear v → FitsSigned w32 (u -ℤ v)
gap_fits u v h k = let a = h.0 in let b = h.1 in let d = k.0 in let e = k.1 in omega (arith, ints)

-- a difference, from its bits
gap_back : (u v : ℤ) → IsNear u → IsNear v → to_z w32 (of_z w32 (to_z w32 (of_z w32 u) -ℤ to_z w32 (of_z w32 v))) ≡ (u -ℤ v)
gap_back u v h k =
    let fu = near_fits u h in
    let fv = near_fits v k in
    let fd = gap_fits u v h k in
    simp to_z-of_z

pub returns-clause-area : goal.returns-clause-area
returns-clause-area c =
    let own = c.args.own.now in
    let other = c.args.other.now in
    let ow = ends own.l own.r c.requires.own.wide in
    let oh = ends own.b own.t c.requires.own.high in
    let qw = ends other.l other.r c.requires.other.wide in
    let qh = ends other.b other.t c.requires.other.high in
    rw (gap_back own.l other.r ow.0 qw.1, gap_back own.b other.t oh.0 qh.1, gap_back own.r other.l ow.1 qw.0, gap_back own.t other.b oh.1 qh.0) refl

pub returns-clause-wide : goal.returns-clause-wide
returns-clause-wide c =
    let own = c.args.own.now in
    let other = c.args.other.now in
    let ow = ends own.l own.r c.requires.own.wide in
    let qw = ends other.l other.r c.requires.other.wide in
    rw (gap_back own.l other.r ow.0 qw.1, gap_back own.r other.l ow.1 qw.0) (gap_reach own.l other.r ow.0 qw.1, gap_reach own.r other.l ow.1 qw.0)

pub returns-clause-high : goal.returns-clause-high
returns-clause-high c =
    let own = c.args.own.now in
    let other = c.args.other.now in
    let oh = ends own.b own.t c.requires.own.high in
    let qh = ends other.b other.t c.requires.other.high in
    rw (gap_back own.b other.t oh.0 qh.1, gap_back own.t other.b oh.1 qh.0) (gap_reach own.b other.t oh.0 qh.1, gap_reach own.t other.b oh.1 qh.0)
