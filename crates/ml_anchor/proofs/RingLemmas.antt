-- Bounds of rings, as a loop finds them.
use Rattle.std.proofs.Common.{◌≡◌, ℕ, ◌+◌, ◌<◌, ◌≤◌, List, [], ◌∷◌, ◌++◌, length, get_or, take, map, ◌^◌, suc, ℤ, pos, ◌≤ℤ◌, ◌-ℤ◌, ◌*ℤ◌, FitsSigned, lit<, inl, inr, refl, sym, ap, ◌∙◌, subst, arith}
use Rattle.std.specs.Int.{int_min, int_max}
use Rattle.std.specs.List.{fold}
use Rattle.std.proofs.lemmas.List.{take_more, map_push, take_all, length-map, length-take}
use Rattle.std.proofs.lemmas.List.Sums.{fold_push}
use Rattle.std.proofs.lemmas.List.Elements.{All-head, All-tail, All-cons, All-nil, All-contains, All-map}
use Rattle.std.proofs.lemmas.Int.{ints, fits_signed_mul, fold-int_min_bounds, fold-int_min_reached, fold-int_max_bounds, fold-int_max_reached}
use Rattle.std.specs.Prelude.{All}
use Rattle.std.specs.List.{Contains}
use Rattle.ml_ratio.specs.World.{IsInWorld}
use Rattle.ml_ratio.specs.declared.geometry.Pos.{Pos}
use mir.Syntax.{w128}
use Rattle.ml_ratio.proofs.lemmas.Rounding.{size_le}
use Rattle.ml_anchor.specs.Ring.{least, greatest, west, east, south, north, AreBoundsOf, AreInOrder}

least_push : (xs : List ℤ) (y : ℤ) → 0 < length xs → least (xs ++ y ∷ []) ≡ int_min (least xs) y
least_push [] y h = absurd (omega arith)
least_push (x ∷ xs) y h = fold_push int_min x xs y

greatest_push : (xs : List ℤ) (y : ℤ) → 0 < length xs → greatest (xs ++ y ∷ []) ≡ int_max (greatest xs) y
greatest_push [] y h = absurd (omega arith)
greatest_push (x ∷ xs) y h = fold_push int_max x xs y

-- one number more
least_more : (f : Pos → ℤ) (ring : List Pos) (i : ℕ) (d : Pos) → 0 < i → i < length ring → least (map f (take (i + 1) ring)) ≡ int_min (least (map f (take i ring))) (f (get_or ring i d))
least_more f ring i d h k =
    ap (λ (ps : List Pos). least (map f ps)) (take_more ring i d k)
    ∙ ap least (map_push f (take i ring) (get_or ring i d))
    ∙ least_push (map f (take i ring)) (f (get_or ring i d)) (simp (length-map, length-take) (omega arith))

greatest_more : (f : Pos → ℤ) (ring : List Pos) (i : ℕ) (d : Pos) → 0 < i → i < length ring → greatest (map f (take (i + 1) ring)) ≡ int_max (greatest (map f (take i ring))) (f (get_or ring i d))
greatest_more f ring i d h k =
    ap (λ (ps : List Pos). greatest (map f ps)) (take_more ring i d k)
    ∙ ap greatest (map_push f (take i ring) (get_or ring i d))
    ∙ greatest_push (map f (take i ring)) (f (get_or ring i d)) (simp (length-map, length-take) (omega arith))

-- the bounds of the first position
pub bounds_of_first : (ring : List Pos) (p : Pos) → 0 < length ring → p ≡ get_or ring 0 p → AreBoundsOf (take 1 ring) p.x p.x p.y p.y
unfolding west east south north
bounds_of_first [] p h e = absurd (omega arith)
bounds_of_first (q ∷ qs) p h e = record { west_is = ap (λ (r : Pos). r.x) e; east_is = ap (λ (r : Pos). r.x) e; south_is = ap (λ (r : Pos). r.y) e; north_is = ap (λ (r : Pos). r.y) e }

-- the bounds with one position more
pub bounds_more : (ring : List Pos) (i : ℕ) (d p : Pos) (w e s n w' e' s' n' : ℤ) → 0 < i → i < length ring → p ≡ get_or ring i d → AreBoundsOf (take i ring) w e s n →
    w' ≡ int_min w p.x → e' ≡ int_max e p.x → s' ≡ int_min s p.y → n' ≡ int_max n p.y → AreBoundsOf (take (i + 1) ring) w' e' s' n'
unfolding west east south north
bounds_more ring i d p w e s n w' e' s' n' h k at b we ee se ne =
    let wl = least_more (λ q. q.x) ring i d h k in
    let el = greatest_more (λ q. q.x) ring i d h k in
    let sl = least_more (λ q. q.y) ring i d h k in
    let nl = greatest_more (λ q. q.y) ring i d h k in
    let wb = b.west_is in
    let eb = b.east_is in
    let sb = b.south_is in
    let nb = b.north_is in
    record { west_is = cc; east_is = cc; south_is = cc; north_is = cc }

-- all positions
pub bounds_all : (ring : List Pos) (i : ℕ) (w e s n : ℤ) → length ring ≤ i → AreBoundsOf (take i ring) w e s n → AreBoundsOf ring w e s n
bounds_all ring i w e s n h b = subst (λ (ps : List Pos). AreBoundsOf ps w e s n) (take_all i ring h) b

-- the least of world coordinates is one
least_in : (xs : List ℤ) → 0 < length xs → All IsInWorld xs → IsInWorld (least xs)
least_in [] h all = absurd (omega arith)
least_in (x ∷ xs) h all =
    let P : ℤ → Type 0 = λ z. IsInWorld z in
    elim (fold-int_min_reached x xs (fold int_min x xs) refl) [
      | inl e ↦ subst P (sym e) (All-head IsInWorld x xs all)
      | inr k ↦ All-contains IsInWorld xs _ (All-tail IsInWorld x xs all) k
    ]

-- the greatest of world coordinates is one
greatest_in : (xs : List ℤ) → 0 < length xs → All IsInWorld xs → IsInWorld (greatest xs)
greatest_in [] h all = absurd (omega arith)
greatest_in (x ∷ xs) h all =
    let P : ℤ → Type 0 = λ z. IsInWorld z in
    elim (fold-int_max_reached x xs (fold int_max x xs) refl) [
      | inl e ↦ subst P (sym e) (All-head IsInWorld x xs all)
      | inr k ↦ All-contains IsInWorld xs _ (All-tail IsInWorld x xs all) k
    ]

-- the least is at most each, and the greatest at least each
pub least_bound : (xs : List ℤ) → All (λ x. least xs ≤ℤ x) xs
least_bound [] = All-nil (λ x. pos 0 ≤ℤ x)
least_bound (x ∷ xs) =
    let b = fold-int_min_bounds x xs (fold int_min x xs) refl in
    All-cons (λ y. fold int_min x xs ≤ℤ y) x xs b.0 b.1

-- each number is at most the greatest
pub greatest_bound : (xs : List ℤ) → All (λ x. x ≤ℤ greatest xs) xs
greatest_bound [] = All-nil (λ x. x ≤ℤ pos 0)
greatest_bound (x ∷ xs) =
    let b = fold-int_max_bounds x xs (fold int_max x xs) refl in
    All-cons (λ y. y ≤ℤ fold int_max x xs) x xs b.0 b.1

-- the least and the greatest are among them
pub least_reached : (xs : List ℤ) → 0 < length xs → Contains xs (least xs)
least_reached [] h = absurd (omega arith)
least_reached (x ∷ xs) h =
    elim (fold-int_min_reached x xs (fold int_min x xs) refl) [
      | inl e ↦ (0, omega arith, sym e)
      | inr k ↦ (suc k.0, omega (arith, k.1), k.2)
    ]

-- the greatest of some numbers is one of them
pub greatest_reached : (xs : List ℤ) → 0 < length xs → Contains xs (greatest xs)
greatest_reached [] h = absurd (omega arith)
greatest_reached (x ∷ xs) h =
    elim (fold-int_max_reached x xs (fold int_max x xs) refl) [
      | inl e ↦ (0, omega arith, sym e)
      | inr k ↦ (suc k.0, omega (arith, k.1), k.2)
    ]

spread : (xs : List ℤ) → 0 < length xs → least xs ≤ℤ greatest xs
spread xs h =
    let a = least_bound xs 0 (pos 0) h in
    let b = greatest_bound xs 0 (pos 0) h in
    omega (arith, ints, a, b)

-- the bounds of a ring that has a position
pub bounds_are : (ring : List Pos) → 0 < length ring → AreInOrder (west ring) (east ring) (south ring) (north ring)
unfolding west east south north
bounds_are ring h =
    let xs = map (λ (p : Pos). p.x) ring in
    let ys = map (λ (p : Pos). p.y) ring in
    let hx : 0 < length (map (λ (p : Pos). p.x) ring) = rw length-map h in
    let hy : 0 < length (map (λ (p : Pos). p.y) ring) = rw length-map h in
    let ax = All-map IsInWorld (λ (p : Pos). p.x) ring (λ k d m. (get_or ring k d).world_x) in
    let ay = All-map IsInWorld (λ (p : Pos). p.y) ring (λ k d m. (get_or ring k d).world_y) in
    record {
      west_in = least_in xs hx ax;
      east_in = greatest_in xs hx ax;
      south_in = least_in ys hy ay;
      north_in = greatest_in ys hy ay;
      across = spread xs hx;
      up = spread ys hy;
    }

-- the area of a bounding box fits 128 bits
pub area_fits : (w e s n : ℤ) → IsInWorld w → IsInWorld e → IsInWorld s → IsInWorld n → FitsSigned w128 ((e -ℤ w) *ℤ (n -ℤ s))
area_fits w e s n wi ei si ni =
    fits_signed_mul w128 (e -ℤ w) (n -ℤ s) (2 ^ 33) (2 ^ 33) (size_le (e -ℤ w) (2 ^ 33) (omega (arith, ints)) (omega (arith, ints)))
    (size_le (n -ℤ s) (2 ^ 33) (omega (arith, ints)) (omega (arith, ints))) (lit< tt)

-- the same of numbers that are the bounds
pub in_order : (ring : List Pos) (w e s n : ℤ) → 0 < length ring → AreBoundsOf ring w e s n → AreInOrder w e s n
in_order ring w e s n h b =
    let a = bounds_are ring h in
    let wi = b.west_is in
    let ei = b.east_is in
    let si = b.south_is in
    let ni = b.north_is in
    rw (wi, ei, si, ni) a
