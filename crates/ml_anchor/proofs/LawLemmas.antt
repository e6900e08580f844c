-- The laws.
use Rattle.std.proofs.Common.{◌≡◌, ℕ, ◌%◌, ◌<◌, ◌≤◌, List, [], length, get_or, Some, true, false, ℤ, pos, ◌+ℤ◌, ◌<ℤ◌, ◌≤ℤ◌, inl, inr, sym, ap, ◌∙◌, subst, arith}
use Rattle.std.specs.Prelude.{All}
use Rattle.std.proofs.lemmas.Bool.{cases_order}
use Rattle.std.proofs.lemmas.Int.{ints, by_lt_z}
use Rattle.std.proofs.lemmas.List.Sorted.{length_permutation}
use Rattle.ml_ratio.specs.Geometry.{IsSamePlace, IsRing, IsPolygon, IsGeometry}
use Rattle.ml_ratio.specs.declared.geometry.Geometry.{Geometry}
use Rattle.ml_ratio.specs.declared.geometry.Geometry.TheVariants.{Point, MultiPoint, LineString, MultiLineString, Polygon, MultiPolygon}
use Rattle.ml_ratio.specs.declared.geometry.Pos.{Pos}
use Rattle.ml_ratio.specs.Floor.{floor}
use Rattle.ml_anchor.specs.Best.{IsFirstGreatest}
use Rattle.ml_anchor.specs.Ring.{south, north}
use Rattle.ml_anchor.specs.Scan.{crossings}
use Rattle.ml_anchor.specs.Pairs.{at, rank, IsInsidePair, IsWidestPair, IsMiddle}
use Rattle.ml_anchor.specs.Anchor.{outer, part_area, IsPolygonAnchor, IsAreaAnchor}
use Rattle.ml_ratio.proofs.lemmas.Rounding.{floor_least, floor_most}
use Rattle.ml_anchor.proofs.CountLemmas.{crossings_even, crossings_two}
use Rattle.ml_anchor.proofs.RankLemmas.{lands, pair_at}
use Rattle.ml_anchor.proofs.RingLemmas.{bounds_are}
use Rattle.ml_anchor.proofs.SortLemmas.{sort_of}

-- rings cross a level line at an even number of places
pub crossings_are_even : (h : ℤ) (rings : List (List Pos)) → All IsRing rings → length (crossings h rings) % 2 ≡ 0
crossings_are_even = crossings_even

first_pair : (xs : List ℤ) → 2 ≤ length xs → (i : ℕ) × (j : ℕ) × IsInsidePair xs i j
first_pair xs h =
    let s = sort_of xs in
    let p = pair_at xs s.sorted s.moved s.up 0 (omega (arith, length_permutation xs s.sorted s.moved)) in
    (p.0, p.1, p.2)

-- half way up a polygon that is not flat, some stretch lies inside
pub some_stretch_is_inside : (rings : List (List Pos)) → IsPolygon rings → south (outer rings) <ℤ north (outer rings) →
    (i : ℕ) × (j : ℕ) × IsInsidePair (crossings (south (outer rings) +ℤ north (outer rings)) rings) i j
some_stretch_is_inside rings polygon tall = first_pair _ (crossings_two rings polygon tall)

half_between : (a b : ℤ) → a ≤ℤ b → (a ≤ℤ floor (a +ℤ b) (pos 2)) × (floor (a +ℤ b) (pos 2) ≤ℤ b)
half_between a b h =
    (floor_least (a +ℤ b) (pos 2) a (omega (arith, ints)) (omega (arith, ints)), floor_most (a +ℤ b) (pos 2) b (omega (arith, ints)) (omega (arith, ints)))

in_order : (xs : List ℤ) (i j : ℕ) → IsInsidePair xs i j → at xs i ≤ℤ at xs j
in_order xs i j pair =
    let s = sort_of xs in
    let a = lands xs s.sorted s.moved s.up i pair.from_there in
    let b = lands xs s.sorted s.moved s.up j pair.to_there in
    let up : at s.sorted (rank xs i) ≤ℤ at s.sorted (rank xs j) = s.up (rank xs i) (rank xs j) (omega (arith, pair.next)) b.there in
    rw (a.same, b.same) at up

-- the middle of a stretch inside, rounded down, lies between the ends of the stretch
pub a_middle_is_inside : (xs : List ℤ) (i j : ℕ) → IsInsidePair xs i j → (at xs i ≤ℤ floor (at xs i +ℤ at xs j) (pos 2)) × (floor (at xs i +ℤ at xs j) (pos 2) ≤ℤ at xs j)
a_middle_is_inside xs i j pair = half_between (at xs i) (at xs j) (in_order xs i j pair)

never_less : (a b : ℤ) → a <ℤ b → b ≤ℤ a → ⊥
never_less a b h k = omega (arith, ints)

-- two widest pairs have one rank
one_rank : (xs : List ℤ) (i j k m : ℕ) → IsWidestPair xs i j → IsWidestPair xs k m → rank xs i ≡ rank xs k
one_rank xs i j k m p q =
    elim (cases_order (rank xs i) (rank xs k)) [
      | inl e ↦ e
      | inr (inl l) ↦ absurd (never_less _ _ (q.first i j p.inside l) (p.widest k m q.inside))
      | inr (inr g) ↦ absurd (never_less _ _ (p.first k m q.inside g) (q.widest i j p.inside))
    ]

-- numbers of one rank are the same
one_number : (xs : List ℤ) (i k : ℕ) → i < length xs → k < length xs → rank xs i ≡ rank xs k → at xs i ≡ at xs k
one_number xs i k hi hk e =
    let s = sort_of xs in
    let a = lands xs s.sorted s.moved s.up i hi in
    let b = lands xs s.sorted s.moved s.up k hk in
    sym a.same ∙ (ap (λ (n : ℕ). at s.sorted n) e ∙ b.same)

one_middle : (xs : List ℤ) (x y : ℤ) → IsMiddle xs x → IsMiddle xs y → x ≡ y
one_middle xs x y a b =
    let p = a.pair in
    let q = b.pair in
    let r = one_rank xs a.from a.to b.from b.to p q in
    let low = one_number xs a.from b.from p.inside.from_there q.inside.from_there r in
    let high = one_number xs a.to b.to p.inside.to_there q.inside.to_there (omega (arith, r, p.inside.next, q.inside.next)) in
    a.half ∙ (ap (λ (z : ℤ). floor (z +ℤ at xs a.to) (pos 2)) low ∙ (ap (λ (z : ℤ). floor (at xs b.from +ℤ z) (pos 2)) high ∙ sym b.half))

same_from : (a b : ℤ) → a ≤ℤ b → b ≤ℤ a → a ≡ b
same_from a b h k = omega (arith, ints)

-- a polygon has one anchor at most
pub one_anchor : (rings : List (List Pos)) (p q : Pos) → IsPolygon rings → IsPolygonAnchor rings p → IsPolygonAnchor rings q → (p.x ≡ q.x) × (p.y ≡ q.y)
one_anchor rings p q polygon a b =
    by_lt_z (south (outer rings)) (north (outer rings)) (λ tall.
    let m = a.tall tall in
    let n = b.tall tall in
    (one_middle _ _ _ m.0 n.0, m.1 ∙ sym n.1))
    (λ low.
    let ring : IsRing (outer rings) = polygon.1 0 [] polygon.0 in
    let o = bounds_are (outer rings) (omega (arith, ring.0)) in
    let same = same_from _ _ o.up low in
    let m = a.flat same in
    let n = b.flat same in
    (m.0 ∙ sym n.0, m.1 ∙ sym n.1))

-- of some places one is the first at which f is greatest
one_greatest : (f : ℕ → ℤ) (n i k : ℕ) → IsFirstGreatest f n i → IsFirstGreatest f n k → i ≡ k
one_greatest f n i k p q =
    elim (cases_order i k) [
      | inl e ↦ e
      | inr (inl l) ↦ absurd (never_less _ _ (q.first i l) (p.greatest k q.there))
      | inr (inr g) ↦ absurd (never_less _ _ (p.first k g) (q.greatest i p.there))
    ]

-- a shape of any kind has one anchor of an area at most
pub one_area_anchor : (shape : Geometry) (p q : Pos) → IsGeometry shape → IsAreaAnchor shape (Some p) → IsAreaAnchor shape (Some q) → IsSamePlace p q
one_area_anchor (Point place) p q shaped a b = absurd (let f : true ≡ false = a in cc)
one_area_anchor (MultiPoint places) p q shaped a b = absurd (let f : true ≡ false = a in cc)
one_area_anchor (LineString line) p q shaped a b = absurd (let f : true ≡ false = a in cc)
one_area_anchor (MultiLineString lines) p q shaped a b = absurd (let f : true ≡ false = a in cc)
one_area_anchor (Polygon rings) p q shaped a b = one_anchor rings p q shaped a b
one_area_anchor (MultiPolygon parts) p q shaped a b =
    let same = one_greatest (part_area parts) (length parts) b.0 a.0 b.1 a.1 in
    let polygon : IsPolygon (get_or parts a.0 []) = shaped.1 a.0 [] a.1.there in
    one_anchor (get_or parts a.0 []) p q polygon a.2 (subst (λ (i : ℕ). IsPolygonAnchor (get_or parts i []) q) same b.2)
