-- The anchor of a polygon, from what its parts are.
use Rattle.std.proofs.Common.{◌≡◌, ℕ, ◌+◌, ◌*◌, ◌/◌, ◌≤◌, List, length, ℤ, pos, ◌+ℤ◌, ◌<ℤ◌, ◌≤ℤ◌, sym, ap, ◌∙◌, subst, arith}
use Rattle.std.proofs.lemmas.Int.{ints}
use Rattle.ml_ratio.specs.declared.geometry.Pos.{Pos}
use Rattle.std.specs.Prelude.{All}
use Rattle.std.specs.Ordering.{int_cmp}
use Rattle.std.specs.List.Sorted.{IsPermutation, IsSorted}
use Rattle.std.proofs.lemmas.List.Sorted.{All-permutation}
use Rattle.ml_ratio.specs.World.{IsInWorld}
use Rattle.ml_ratio.specs.Geometry.{IsPolygon}
use Rattle.ml_ratio.specs.Floor.{floor}
use Rattle.ml_anchor.specs.Ring.{west, south, north, AreBoundsOf}
use Rattle.ml_anchor.specs.Scan.{crossings}
use Rattle.ml_anchor.specs.Best.{IsFirstGreatest}
use Rattle.ml_anchor.specs.Pairs.{at, pair_gap, IsMiddle}
use Rattle.ml_anchor.specs.Anchor.{outer, IsPolygonAnchor}
use Rattle.ml_anchor.proofs.CountLemmas.{crossings_two, crossings_in}
use Rattle.ml_anchor.proofs.RankLemmas.{rising_from_sort, widest_pair}

not_both : (s n : ℤ) → n ≤ℤ s → s <ℤ n → ⊥
not_both s n h k = omega (arith, ints)

not_same : (s n : ℤ) → s <ℤ n → s ≡ n → ⊥
not_same s n h k = omega (arith, ints)

-- a flat polygon
pub flat_anchor : (rings : List (List Pos)) (ring : List Pos) (w e s n : ℤ) (p : Pos) → ring ≡ outer rings →
    AreBoundsOf ring w e s n → n ≤ℤ s → p.x ≡ floor (w +ℤ e) (pos 2) → p.y ≡ s → IsPolygonAnchor rings p
flat_anchor rings ring w e s n p is b low x y =
    let o = subst (λ (r : List Pos). AreBoundsOf r w e s n) is b in
    let wi = o.west_is in
    let ei = o.east_is in
    let si = o.south_is in
    let ni = o.north_is in
    record {
      flat = λ same. (x ∙ (ap (λ (z : ℤ). floor (z +ℤ e) (pos 2)) wi ∙ ap (λ (z : ℤ). floor (west (outer rings) +ℤ z) (pos 2)) ei), y ∙ si);
      tall = λ less. absurd (not_both s n low (rw (si, ni) less));
    }

-- one with height
pub tall_anchor : (rings : List (List Pos)) (ring : List Pos) (w e s n : ℤ) (p : Pos) → ring ≡ outer rings → AreBoundsOf ring w e s n →
    s <ℤ n → IsMiddle (crossings (s +ℤ n) rings) p.x → p.y ≡ floor (s +ℤ n) (pos 2) → IsPolygonAnchor rings p
tall_anchor rings ring w e s n p is b high x y =
    let o = subst (λ (r : List Pos). AreBoundsOf r w e s n) is b in
    let si = o.south_is in
    let ni = o.north_is in
    let sum : s +ℤ n ≡ south (outer rings) +ℤ north (outer rings) = ap (λ (z : ℤ). z +ℤ n) si ∙ ap (λ (z : ℤ). south (outer rings) +ℤ z) ni in
    record {
      flat = λ same. absurd (not_same s n high (si ∙ (same ∙ sym ni)));
      tall = λ less. (subst (λ (h : ℤ). IsMiddle (crossings h rings) p.x) sum x, y ∙ ap (λ (h : ℤ). floor h (pos 2)) sum);
    }

-- there are two crossings where it has height
pub two_crossings : (rings : List (List Pos)) (ring : List Pos) (w e s n : ℤ) → ring ≡ outer rings → IsPolygon rings → AreBoundsOf ring w e s n → s <ℤ n → 2 ≤ length (crossings (s +ℤ n) rings)
two_crossings rings ring w e s n is polygon b high =
    let o = subst (λ (r : List Pos). AreBoundsOf r w e s n) is b in
    let si = o.south_is in
    let ni = o.north_is in
    let sum : s +ℤ n ≡ south (outer rings) +ℤ north (outer rings) = ap (λ (z : ℤ). z +ℤ n) si ∙ ap (λ (z : ℤ). south (outer rings) +ℤ z) ni in
    subst (λ (h : ℤ). 2 ≤ length (crossings h rings)) (sym sum) (crossings_two rings polygon (rw (← si, ← ni) high))

-- sorted crossings lie in the world
pub sorted_in : (h : ℤ) (rings : List (List Pos)) (xs ys zs : List ℤ) → xs ≡ crossings h rings → IsPermutation xs ys → zs ≡ ys → All IsInWorld zs
sorted_in h rings xs ys zs e perm s =
    let all : All IsInWorld xs = subst (λ (l : List ℤ). All IsInWorld l) (sym e) (crossings_in h rings) in
    subst (λ (l : List ℤ). All IsInWorld l) (sym s) (All-permutation IsInWorld xs ys perm all)

-- the middle of the widest two in the sorted list
pub middle_from_sort : (h : ℤ) (rings : List (List Pos)) (xs ys zs : List ℤ) (k : ℕ) (a b m : ℤ) → xs ≡ crossings h rings →
    IsPermutation xs ys → IsSorted int_cmp ys → zs ≡ ys → IsFirstGreatest (pair_gap zs) (length zs / 2) k →
    a ≡ at ys (2 * k) → b ≡ at ys (2 * k + 1) → m ≡ floor (a +ℤ b) (pos 2) → IsMiddle (crossings h rings) m
middle_from_sort h rings xs ys zs k a b m e perm up s best ea eb em =
    let best' = subst (λ (l : List ℤ). IsFirstGreatest (pair_gap l) (length l / 2) k) s best in
    let w = widest_pair xs ys perm (rising_from_sort ys up) k best' in
    let ia : a ≡ at xs w.0 = ea ∙ sym w.3 in
    let ib : b ≡ at xs w.1 = eb ∙ sym w.4 in
    let mid : IsMiddle xs m = record {
      from = w.0;
      to = w.1;
      pair = w.2;
      half = em ∙ (ap (λ (z : ℤ). floor (z +ℤ b) (pos 2)) ia ∙ ap (λ (z : ℤ). floor (at xs w.0 +ℤ z) (pos 2)) ib);
    } in
    subst (λ (l : List ℤ). IsMiddle l m) e mid
