use Rattle.std.proofs.Common.{◌≡◌, ℕ, ◌∙◌, ap, refl, ◌*◌, ◌/◌, ◌<◌, ◌≤◌, rules, arith, FitsSigned, w32, w64, ℤ, pos, ◌+ℤ◌, ◌-ℤ◌, ◌*ℤ◌, to_z, of_z}
use Rattle.std.specs.Int.{int_div_euclid}
use Rattle.std.proofs.lemmas.Int.{to_z-of_z}
use Rattle.std.proofs.lemmas.Nat.{mul-le, mul-lt, pow_pos}
use Rattle.ml_ratio.specs.Fraction.{value_of}
use Rattle.ml_cone.specs.Cells.{cell_side}
use Rattle.ml_grid.proofs.Windows.{columns_fit, window_columns, window_few}
use Rattle.ml_grid.proofs.window.columns_in.Goals as goal

-- a cell has a side
side_pos : (k : ℕ) → 0 < cell_side k
side_pos k = omega (arith, pow_pos k)

-- which is wide, times any number
side_wide : (k d : ℕ) → 1024 * d ≤ cell_side k * d
side_wide k d = mul-le 1024 d (cell_side k) d (omega (arith, pow_pos k)) (omega arith)

-- the floor that was computed, from its parts
floor_is : (r m h s : ℤ) (c d : ℤ) (k : ℤ) → FitsSigned w64 m → FitsSigned w64 h → FitsSigned w64 s → m ≡ c → h ≡ d → s ≡ k →
    r ≡ int_div_euclid (to_z w64 (of_z w64 m) -ℤ to_z w64 (of_z w64 h)) (to_z w64 (of_z w64 s)) → r ≡ int_div_euclid (c -ℤ d) k
floor_is r m h s c d k fm fh fs em eh es e = e ∙ rw (to_z-of_z w64 m fm, to_z-of_z w64 h fh, to_z-of_z w64 s fs, em, eh, es) refl

last_is : (r m h s : ℤ) (c d : ℤ) (k : ℤ) → FitsSigned w64 m → FitsSigned w64 h → FitsSigned w64 s → m ≡ c → h ≡ d → s ≡ k →
    r ≡ int_div_euclid ((to_z w64 (of_z w64 m) +ℤ to_z w64 (of_z w64 h)) -ℤ pos 1) (to_z w64 (of_z w64 s)) → r ≡ int_div_euclid ((c +ℤ d) -ℤ pos 1) k
last_is r m h s c d k fm fh fs em eh es e = e ∙ rw (to_z-of_z w64 m fm, to_z-of_z w64 h fh, to_z-of_z w64 s fs, em, eh, es) refl

-- a floor that fits in 32 bits comes back from them
narrow_back : (r q : ℤ) → r ≡ q → FitsSigned w64 r → FitsSigned w32 q → to_z w32 (of_z w32 (to_z w64 (of_z w64 r))) ≡ q
narrow_back r q is wide narrow = ap (λ (z : ℤ). to_z w32 (of_z w32 z)) (to_z-of_z w64 r wide ∙ is) ∙ to_z-of_z w32 q narrow

narrow_fits : (r q : ℤ) → r ≡ q → FitsSigned w64 r → FitsSigned w32 q → FitsSigned w32 (to_z w64 (of_z w64 r))
narrow_fits r q is wide narrow = rw (to_z-of_z w64 r wide, is) narrow

pub overflow_cast-result : goal.overflow_cast-result
overflow_cast-result c =
    let s = value_of c.args.scale.now in
    let half : c.args.w ≡ 2 * (c.args.w / 2) = (let e = c.requires.even_w in omega arith) in
    let positive : 0 < cell_side c.args.band * s.den = mul-lt 0 0 (cell_side c.args.band) s.den (side_pos c.args.band) s.positive in
    let middle = c.middle_of-middle.ensures.is ∙ ap (λ (z : ℤ). z *ℤ pos c.args.scale.now.den) (to_z-of_z w64 c.args.c c.ranges.c) in
    let first = floor_is c.first_column-first.result c.middle_of-middle.result c.half_of-half.result c.side_at-side.result _ _ _ (search rules)
    (search rules) (search rules) middle c.half_of-half.ensures.is c.side_at-side.ensures.is c.first_column-first.ensures in
    let last = last_is c.last_column-last.result c.middle_of-middle.result c.half_of-half.result c.side_at-side.result _ _ _ (search rules)
    (search rules) (search rules) middle c.half_of-half.ensures.is c.side_at-side.ensures.is c.last_column-last.ensures in
    let few = window_few c.args.c c.args.w (c.args.w / 2) c.args.band s half c.requires.some_w c.requires.low_w c.requires.above c.requires.in_band.below positive in
    let fit = columns_fit c.args.c s.den (c.args.w / 2 * s.num) (cell_side c.args.band * s.den) c.requires.c_in_world s.positive (side_wide c.args.band s.den) few in
    narrow_fits c.first_column-first.result _ first (search rules) fit.0

pub overflow_cast-result-2 : goal.overflow_cast-result-2
overflow_cast-result-2 c =
    let s = value_of c.args.scale.now in
    let half : c.args.w ≡ 2 * (c.args.w / 2) = (let e = c.requires.even_w in omega arith) in
    let positive : 0 < cell_side c.args.band * s.den = mul-lt 0 0 (cell_side c.args.band) s.den (side_pos c.args.band) s.positive in
    let middle = c.middle_of-middle.ensures.is ∙ ap (λ (z : ℤ). z *ℤ pos c.args.scale.now.den) (to_z-of_z w64 c.args.c c.ranges.c) in
    let first = floor_is c.first_column-first.result c.middle_of-middle.result c.half_of-half.result c.side_at-side.result _ _ _ (search rules)
    (search rules) (search rules) middle c.half_of-half.ensures.is c.side_at-side.ensures.is c.first_column-first.ensures in
    let last = last_is c.last_column-last.result c.middle_of-middle.result c.half_of-half.result c.side_at-side.result _ _ _ (search rules)
    (search rules) (search rules) middle c.half_of-half.ensures.is c.side_at-side.ensures.is c.last_column-last.ensures in
    let few = window_few c.args.c c.args.w (c.args.w / 2) c.args.band s half c.requires.some_w c.requires.low_w c.requires.above c.requires.in_band.below positive in
    let fit = columns_fit c.args.c s.den (c.args.w / 2 * s.num) (cell_side c.args.band * s.den) c.requires.c_in_world s.positive (side_wide c.args.band s.den) few in
    narrow_fits c.last_column-last.result _ last (search rules) fit.1

pub returns-clause-few : goal.returns-clause-few
returns-clause-few c =
    let s = value_of c.args.scale.now in
    let half : c.args.w ≡ 2 * (c.args.w / 2) = (let e = c.requires.even_w in omega arith) in
    let positive : 0 < cell_side c.args.band * s.den = mul-lt 0 0 (cell_side c.args.band) s.den (side_pos c.args.band) s.positive in
    let middle = c.middle_of-middle.ensures.is ∙ ap (λ (z : ℤ). z *ℤ pos c.args.scale.now.den) (to_z-of_z w64 c.args.c c.ranges.c) in
    let first = floor_is c.first_column-first.result c.middle_of-middle.result c.half_of-half.result c.side_at-side.result _ _ _ (search rules)
    (search rules) (search rules) middle c.half_of-half.ensures.is c.side_at-side.ensures.is c.first_column-first.ensures in
    let last = last_is c.last_column-last.result c.middle_of-middle.result c.half_of-half.result c.side_at-side.result _ _ _ (search rules)
    (search rules) (search rules) middle c.half_of-half.ensures.is c.side_at-side.ensures.is c.last_column-last.ensures in
    let few = window_few c.args.c c.args.w (c.args.w / 2) c.args.band s half c.requires.some_w c.requires.low_w c.requires.above c.requires.in_band.below positive in
    let fit = columns_fit c.args.c s.den (c.args.w / 2 * s.num) (cell_side c.args.band * s.den) c.requires.c_in_world s.positive (side_wide c.args.band s.den) few in
    rw (narrow_back c.first_column-first.result _ first (search rules) fit.0, narrow_back c.last_column-last.result _ last (search rules) fit.1) few

pub returns-clause-meets : goal.returns-clause-meets
returns-clause-meets c x =
    let s = value_of c.args.scale.now in
    let half : c.args.w ≡ 2 * (c.args.w / 2) = (let e = c.requires.even_w in omega arith) in
    let positive : 0 < cell_side c.args.band * s.den = mul-lt 0 0 (cell_side c.args.band) s.den (side_pos c.args.band) s.positive in
    let middle = c.middle_of-middle.ensures.is ∙ ap (λ (z : ℤ). z *ℤ pos c.args.scale.now.den) (to_z-of_z w64 c.args.c c.ranges.c) in
    let first = floor_is c.first_column-first.result c.middle_of-middle.result c.half_of-half.result c.side_at-side.result _ _ _ (search rules)
    (search rules) (search rules) middle c.half_of-half.ensures.is c.side_at-side.ensures.is c.first_column-first.ensures in
    let last = last_is c.last_column-last.result c.middle_of-middle.result c.half_of-half.result c.side_at-side.result _ _ _ (search rules)
    (search rules) (search rules) middle c.half_of-half.ensures.is c.side_at-side.ensures.is c.last_column-last.ensures in
    let few = window_few c.args.c c.args.w (c.args.w / 2) c.args.band s half c.requires.some_w c.requires.low_w c.requires.above c.requires.in_band.below positive in
    let fit = columns_fit c.args.c s.den (c.args.w / 2 * s.num) (cell_side c.args.band * s.den) c.requires.c_in_world s.positive (side_wide c.args.band s.den) few in
    rw (narrow_back c.first_column-first.result _ first (search rules) fit.0, narrow_back c.last_column-last.result _ last (search rules) fit.1)
    (window_columns c.args.c c.args.w (c.args.w / 2) c.args.band s half positive x)
