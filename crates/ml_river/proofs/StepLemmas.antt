-- Coordinates by place, and steps.
use Rattle.std.proofs.Common.{◌≡◌, ℕ, ◌+◌, ◌-◌, ◌<◌, List, length, get_or, ℤ, pos, ◌-ℤ◌, ◌<ℤ◌, ◌⊎◌, negsuc, zero, suc, inl, inr, sym, ap, ◌∙◌, subst, arith}
use Rattle.std.specs.Prelude.{unsigned_abs}
use Rattle.std.specs.Ordering.{int_cmp}
use Rattle.std.specs.declared.cmp.Ordering.{Ordering}
use Rattle.std.specs.declared.cmp.Ordering.TheVariants.{Less, Equal, Greater}
use Rattle.std.proofs.lemmas.Int.{ints}
use Rattle.std.proofs.lemmas.List.{get_or-map}
use Rattle.ml_ratio.specs.declared.geometry.Pos.{Pos}
use Rattle.ml_river.specs.Run.{x_at, y_at, Goes, IsStrict, span}

-- the coordinates of a place, whatever stands past the end
pub x_of : (line : List Pos) (k : ℕ) (d : Pos) → k < length line → x_at line k ≡ (get_or line k d).x
unfolding x_at
x_of line k d h = get_or-map (λ (q : Pos). q.x) line k d (pos 0) h

-- a position that was read
pub x_read : (line : List Pos) (k : ℕ) (p : Pos) → k < length line → p ≡ get_or line k p → x_at line k ≡ p.x
unfolding x_at
x_read line k p h e = get_or-map (λ (q : Pos). q.x) line k p (pos 0) h ∙ ap (λ (q : Pos). q.x) (sym e)

-- the y of a position that was read
pub y_read : (line : List Pos) (k : ℕ) (p : Pos) → k < length line → p ≡ get_or line k p → y_at line k ≡ p.y
unfolding y_at
y_read line k p h e = get_or-map (λ (q : Pos). q.y) line k p (pos 0) h ∙ ap (λ (q : Pos). q.y) (sym e)

less_chain : (x y z : ℤ) → int_cmp x y ≡ Less → int_cmp y z ≡ Less → int_cmp x z ≡ Less
less_chain x y z h k = grind (arith, ints)

equal_chain : (x y z : ℤ) → int_cmp x y ≡ Equal → int_cmp y z ≡ Equal → int_cmp x z ≡ Equal
equal_chain x y z h k = grind (arith, ints)

greater_chain : (x y z : ℤ) → int_cmp x y ≡ Greater → int_cmp y z ≡ Greater → int_cmp x z ≡ Greater
greater_chain x y z h k = grind (arith, ints)

chain : (o : Ordering) (x y z : ℤ) → int_cmp x y ≡ o → int_cmp y z ≡ o → int_cmp x z ≡ o
chain Less x y z h k = less_chain x y z h k
chain Equal x y z h k = equal_chain x y z h k
chain Greater x y z h k = greater_chain x y z h k

far : (line : List Pos) (o : Ordering) (a n : ℕ) → Goes line o a (a + n + 1) → int_cmp (x_at line a) (x_at line (a + n + 1)) ≡ o
far line o a zero g = ap (λ (k : ℕ). int_cmp (x_at line a) (x_at line k)) (omega arith) ∙ g a (omega arith) (omega arith)
far line o a (suc n) g =
    let e : a + suc n + 1 ≡ a + n + 1 + 1 = omega arith in
    let ih = far line o a n (λ k h m. g k h (omega arith)) in
    ap (λ (k : ℕ). int_cmp (x_at line a) (x_at line k)) e ∙ chain o (x_at line a) (x_at line (a + n + 1)) (x_at line (a + n + 1 + 1)) ih (g (a + n + 1) (omega arith) (omega arith))

-- where all steps go one way, the last compares with the first in the same way
pub goes_far : (line : List Pos) (o : Ordering) (a b : ℕ) → a < b → Goes line o a b → int_cmp (x_at line a) (x_at line b) ≡ o
goes_far line o a b h g =
    let e : a + (b - a - 1) + 1 ≡ b = omega arith in
    subst (λ (k : ℕ). int_cmp (x_at line a) (x_at line k) ≡ o) e (far line o a (b - a - 1) (subst (λ (k : ℕ). Goes line o a k) (sym e) g))

size_zero : (z : ℤ) → z ≡ pos 0 → unsigned_abs z ≡ 0
size_zero z e = ap (λ (y : ℤ). unsigned_abs y) e

size_some : (z : ℤ) → (pos 0 <ℤ z) ⊎ (z <ℤ pos 0) → 0 < unsigned_abs z
size_some (pos zero) (inl h) = absurd (omega (arith, ints))
size_some (pos zero) (inr h) = absurd (omega (arith, ints))
size_some (pos (suc n)) h = omega arith
size_some (negsuc n) h = omega arith

equal_apart : (x y : ℤ) → int_cmp x y ≡ Equal → unsigned_abs (y -ℤ x) ≡ 0
equal_apart x y h =
    let e : x ≡ y = grind (arith, ints) in
    size_zero (y -ℤ x) (omega (arith, ints))

less_apart : (x y : ℤ) → int_cmp x y ≡ Less → 0 < unsigned_abs (y -ℤ x)
less_apart x y h =
    let e : x <ℤ y = grind (arith, ints) in
    size_some (y -ℤ x) (inl (omega (arith, ints)))

greater_apart : (x y : ℤ) → int_cmp x y ≡ Greater → 0 < unsigned_abs (y -ℤ x)
greater_apart x y h =
    let e : y <ℤ x = grind (arith, ints) in
    size_some (y -ℤ x) (inr (omega (arith, ints)))

-- the ends of a level stretch do not lie apart
pub equal_span : (line : List Pos) (a b : ℕ) → a < b → Goes line Equal a b → span line a b ≡ 0
equal_span line a b h g = equal_apart (x_at line a) (x_at line b) (goes_far line Equal a b h g)

-- those of a strict one do
pub strict_span : (line : List Pos) (a b : ℕ) → a < b → IsStrict line a b → 0 < span line a b
strict_span line a b h (inl g) = less_apart (x_at line a) (x_at line b) (goes_far line Less a b h g)
strict_span line a b h (inr g) = greater_apart (x_at line a) (x_at line b) (goes_far line Greater a b h g)
