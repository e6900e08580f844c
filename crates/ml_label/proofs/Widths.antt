-- Widths of texts in whole pixels, and how far they reach.
use Rattle.std.proofs.Common.{ℕ, ◌*◌, ◌<◌, ◌≤◌, ◌^◌, min, max, ℤ, pos, inl, inr, arith}
use Rattle.std.proofs.lemmas.Bool.{cases_lt}
use Rattle.std.proofs.lemmas.Grind.{div_ceil_times}
use Rattle.std.proofs.lemmas.Int.{ints}
use Rattle.std.proofs.Math.Nat.{mul-le-mul}
use Rattle.std.specs.Int.{div_ceil}
use Rattle.ml_style.specs.Offset.{IsOffset}
use Rattle.ml_label.specs.Straight.{IsTooWide}

-- a text that is not moved is too wide from 1025 pixels on
pub wide_pixels : (w : ℕ) → IsTooWide (pos 0) w → 1025 ≤ w
wide_pixels w (inl l) = omega (arith, ints)
wide_pixels w (inr r) = omega (arith, ints)

-- and only from there on
pub narrow_pixels : (w : ℕ) → ¬ (IsTooWide (pos 0) w) → w ≤ 1024
narrow_pixels w h =
    elim (cases_lt w 1025) [
      | inl below ↦ omega arith
      | inr above ↦ absurd (h (inr (let above' : 1025 ≤ w = above in omega (arith, ints))))
    ]

-- a wider text is too wide all the more
pub wider : (dx : ℤ) (w v : ℕ) → w ≤ v → IsTooWide dx w → IsTooWide dx v
wider dx w v more (inl l) = inl (omega (arith, ints))
wider dx w v more (inr r) = inr (omega (arith, ints))

-- what is not too wide is less than 2048 pixels wide
pub not_wide : (dx : ℤ) (w : ℕ) → IsOffset dx → ¬ (IsTooWide dx w) → w < 2048
not_wide dx w moved h =
    elim (cases_lt w 2048) [
      | inl below ↦ below
      | inr above ↦ absurd (h (inr (let a : 2048 ≤ w = above in omega (arith, ints, moved.0, moved.1))))
    ]

-- so many units are more than 1024 of u
units_above : (x u : ℕ) → 0 < u → 1025 ≤ div_ceil x u → 1024 * u < x
units_above x u some wide =
    let bounds = div_ceil_times x u some in
    let same : u ≤ u = omega arith in
    let more : 1025 * u ≤ div_ceil x u * u = mul-le-mul wide same in
    omega (arith, bounds.1, more)

-- and the other way round
units_reach : (x u : ℕ) → 0 < u → 1024 * u < x → 1025 ≤ div_ceil x u
units_reach x u some more =
    elim (cases_lt (div_ceil x u) 1025) [
      | inl below ↦ absurd (
          let bounds = div_ceil_times x u some in
          let low : div_ceil x u ≤ 1024 = omega arith in
          let same : u ≤ u = omega arith in
          let few : div_ceil x u * u ≤ 1024 * u = mul-le-mul low same in
          omega (arith, bounds.0, few)
          )
      | inr above ↦ above
    ]

-- advances that reach those of a wide text, or 2^64 - 1, make a wide text
pub wide_units : (a total size u : ℕ) → 1 ≤ size → 1 ≤ u → u ≤ 65535 → 1025 ≤ max (div_ceil (a * size) u) 1 → min a 18446744073709551615 ≤ total → 1025 ≤ max 1 (div_ceil (total * size) u)
wide_units a total size u some_size some_units few_units wide reach =
    let above : 1024 * u < a * size = units_above (a * size) u (omega arith) (omega arith) in
    let same : size ≤ size = omega arith in
    let enough : 1024 * u < total * size = elim (cases_lt a 18446744073709551615) [
      | inl below ↦
          let more : a * size ≤ total * size = mul-le-mul (let r : a ≤ total = omega arith in r) same in
          omega (arith, above, more)
      | inr beyond ↦
          let huge : 18446744073709551615 * 1 ≤ total * size = mul-le-mul (let r : 18446744073709551615 ≤ total = omega arith in r) some_size in
          omega (arith, huge)
    ] in
    let reached = units_reach (total * size) u (omega arith) enough in
    omega (arith, reached)

-- a text of at most 1024 pixels has advances below 2^48
pub narrow_units : (a size u : ℕ) → 1 ≤ size → 1 ≤ u → u ≤ 65535 → max (div_ceil (a * size) u) 1 ≤ 1024 → a < 2 ^ 48
narrow_units a size u some_size some_units few_units narrow =
    let bounds = div_ceil_times (a * size) u (omega arith) in
    let low : div_ceil (a * size) u ≤ 1024 = omega arith in
    let product : div_ceil (a * size) u * u ≤ 1024 * 65535 = mul-le-mul low few_units in
    let same : a ≤ a = omega arith in
    let more : a * 1 ≤ a * size = mul-le-mul same some_size in
    omega (arith, bounds.0, product, more)
