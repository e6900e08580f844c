-- How many crossings there are, and where.
use Rattle.std.proofs.Common.{◌≡◌, ℕ, ◌+◌, ◌-◌, ◌%◌, ◌<◌, ◌≤◌, List, [], ◌∷◌, length, get_or, map, ℤ, pos, ◌+ℤ◌, ◌*ℤ◌, ◌<ℤ◌, ◌≤ℤ◌, Bool, true}
use Rattle.std.proofs.Common.{false, cond, not, ◌&&◌, zero, suc, Option, Some, None, refl, sym, ap, ◌∙◌, subst, inl, inr, ◌⊎◌, arith}
use Rattle.std.specs.Prelude.{All, int_le, int_lt}
use Rattle.std.specs.List.{Contains, filter_map, flat_map, cons_option}
use Rattle.std.proofs.lemmas.Bool.{cases_lt, false≢true}
use Rattle.std.proofs.lemmas.Int.{ints}
use Rattle.std.proofs.lemmas.List.{length-append, length-map, get_or-map, get_or_default}
use Rattle.std.proofs.lemmas.List.Elements.{All-nil, All-cons, All-head, All-tail, All-append}
use Rattle.ml_ratio.specs.declared.geometry.Pos.{Pos}
use Rattle.ml_ratio.specs.Geometry.{IsClosed, IsRing, IsPolygon}
use Rattle.ml_ratio.specs.World.{IsInWorld}
use Rattle.ml_anchor.specs.Ring.{edges, south, north}
use Rattle.ml_anchor.specs.Scan.{rises, x_at, crossing, ring_crossings, crossings}
use Rattle.ml_anchor.specs.Anchor.{outer}
use Rattle.ml_ratio.proofs.lemmas.Rounding.{height_in_world}
use Rattle.ml_anchor.proofs.RingLemmas.{least_reached, greatest_reached}
use Rattle.ml_anchor.proofs.ScanLemmas.{rises_bounds}

weaker : (a b : ℤ) → a <ℤ b → a ≤ℤ b
weaker a b h = omega (arith, ints)

apart : (a b c : ℤ) → a ≤ℤ b → b <ℤ c → a <ℤ c
apart a b c h k = omega (arith, ints)

under : (y s n : ℤ) → y ≡ s → s <ℤ n → (pos 2 *ℤ y) ≤ℤ (s +ℤ n)
under y s n e h = omega (arith, ints)

over : (y n s : ℤ) → y ≡ n → s <ℤ n → (s +ℤ n) <ℤ (pos 2 *ℤ y)
over y n s e h = omega (arith, ints)

-- ---- which side of the line a position is on
abbrev is_low : ℤ → Pos → Bool
is_low h p = int_le (pos 2 *ℤ p.y) h

abbrev bit : Bool → ℕ
bit b = cond b 1 0

-- 1 where the two differ
abbrev differ : Bool → Bool → ℕ
differ s t = cond s (cond t 0 1) (cond t 1 0)

other_side : (h z : ℤ) → int_lt h z ≡ not (int_le z h)
other_side h z = grind (arith, ints)

abbrev count_of : Option ℤ → ℕ
count_of None = 0
count_of (Some x) = 1

-- whether an edge crosses, by the sides of its ends
chosen : (s t u v : Bool) (x y : ℤ) → u ≡ not t → v ≡ not s → count_of (cond (s && u) (Some x) (cond (t && v) (Some y) None)) ≡ differ s t
chosen true true u v x y e f = rw (e, f) refl
chosen true false u v x y e f = rw e refl
chosen false true u v x y e f = rw f refl
chosen false false u v x y e f = refl

edge_count : (h : ℤ) (a b : Pos) → count_of (crossing h (a, b)) ≡ differ (is_low h a) (is_low h b)
edge_count h a b = chosen (is_low h a) (is_low h b) _ _ _ _ (other_side h (pos 2 *ℤ b.y)) (other_side h (pos 2 *ℤ a.y))

length_cons_option : (o : Option ℤ) (xs : List ℤ) → length (cons_option o xs) ≡ count_of o + length xs
length_cons_option None xs = omega arith
length_cons_option (Some x) xs = omega arith

turns : (s t : Bool) → (bit s + differ s t) % 2 ≡ bit t
turns true true = refl
turns true false = refl
turns false true = refl
turns false false = refl

small : (s : Bool) → bit s ≤ 1
small true = omega arith
small false = omega arith

joined : (a l e r n x b : ℕ) → l ≡ e + r → e ≡ n → (a + n) % 2 ≡ b → (b + r) % 2 ≡ x → (a + l) % 2 ≡ x
joined a l e r n x b p q s t = omega arith

-- from the first position to the last the side changes at each crossing
sides : (h : ℤ) (a : Pos) (rest : List Pos) → (bit (is_low h a) + length (ring_crossings h (a ∷ rest))) % 2 ≡ bit (is_low h (get_or (a ∷ rest) (length rest) a))
sides h a [] = let s = small (is_low h a) in omega arith
sides h a (b ∷ rest) =
    let n = edge_count h a b in
    let l = length_cons_option (crossing h (a, b)) (ring_crossings h (b ∷ rest)) in
    let t = turns (is_low h a) (is_low h b) in
    let ih = sides h b rest in
    let same = ap (λ (p : Pos). bit (is_low h p)) (get_or_default (b ∷ rest) (length rest) a b (omega arith)) in
    joined (bit (is_low h a)) _ _ (length (ring_crossings h (b ∷ rest))) _ _ (bit (is_low h b)) l n t ih ∙ sym same

even_back : (s n : ℕ) (t : ℕ) → s ≤ 1 → t ≡ s → (s + n) % 2 ≡ t → n % 2 ≡ 0
even_back s n t h e k = omega arith

-- a closed ring has an even number of crossings
ring_even : (h : ℤ) (ring : List Pos) → IsClosed ring → length (ring_crossings h ring) % 2 ≡ 0
ring_even h [] closed = refl
ring_even h (a ∷ rest) closed =
    let c = closed a in
    let last : get_or (a ∷ rest) (length (a ∷ rest) - 1) a ≡ get_or (a ∷ rest) (length rest) a = ap (λ (n : ℕ). get_or (a ∷ rest) n a) (omega arith) in
    let y : (get_or (a ∷ rest) (length rest) a).y ≡ a.y = ap (λ (p : Pos). p.y) (sym last) ∙ sym c.1 in
    even_back (bit (is_low h a)) _ _ (small (is_low h a)) (ap (λ (z : ℤ). bit (int_le (pos 2 *ℤ z) h)) y) (sides h a rest)

even_sum : (m n : ℕ) → m % 2 ≡ 0 → n % 2 ≡ 0 → (m + n) % 2 ≡ 0
even_sum m n h k = omega arith

rings_even : (h : ℤ) (rings : List (List Pos)) → All IsRing rings → length (flat_map (ring_crossings h) rings) % 2 ≡ 0
rings_even h [] all = refl
rings_even h (r ∷ rs) all =
    let head : IsRing r = All-head IsRing r rs all in
    ap (λ (n : ℕ). n % 2) (length-append (ring_crossings h r) (flat_map (ring_crossings h) rs))
    ∙ even_sum (length (ring_crossings h r)) _ (ring_even h r head.1) (rings_even h rs (All-tail IsRing r rs all))

-- closed rings have an even number of crossings
pub crossings_even : (h : ℤ) (rings : List (List Pos)) → All IsRing rings → length (crossings h rings) % 2 ≡ 0
unfolding crossings
crossings_even h rings all = rings_even h rings all

-- ---- where no edge crosses all positions are on one side
still : (s t : Bool) → differ s t ≡ 0 → t ≡ s
still true true e = refl
still true false e = absurd (omega arith)
still false true e = absurd (omega arith)
still false false e = refl

one_side : (h : ℤ) (a : Pos) (rest : List Pos) → length (ring_crossings h (a ∷ rest)) ≡ 0 → (k : ℕ) (d : Pos) → k < length (a ∷ rest) → is_low h (get_or (a ∷ rest) k d) ≡ is_low h a
one_side h a rest e zero d m = refl
one_side h a [] e (suc k) d m = absurd (omega arith)
one_side h a (b ∷ rest) e (suc k) d m =
    let l = length_cons_option (crossing h (a, b)) (ring_crossings h (b ∷ rest)) in
    let n = edge_count h a b in
    one_side h b rest (omega (arith, e, l)) k d (omega arith) ∙ still (is_low h a) (is_low h b) (omega (arith, e, l, n))

le_is : (a b : ℤ) → a ≤ℤ b → int_le a b ≡ true
le_is a b h = grind (arith, ints)

le_is_not : (a b : ℤ) → b <ℤ a → int_le a b ≡ false
le_is_not a b h = grind (arith, ints)

-- a ring with positions on both sides has a crossing
crosses : (h : ℤ) (ring : List Pos) (i j : ℕ) (d : Pos) → i < length ring → j < length ring →
    is_low h (get_or ring i d) ≡ true → is_low h (get_or ring j d) ≡ false → 0 < length (ring_crossings h ring)
crosses h [] i j d hi hj low high = absurd (omega arith)
crosses h (a ∷ rest) i j d hi hj low high =
    elim (cases_lt 0 (length (ring_crossings h (a ∷ rest)))) [
      | inl some ↦ some
      | inr none ↦
          let s = one_side h a rest (omega arith) i d hi in
          let t = one_side h a rest (omega arith) j d hj in
          absurd (false≢true (sym high ∙ (t ∙ (sym s ∙ low))))
    ]

-- the position at which a list of y has a value
place_of : (a : Pos) (rest : List Pos) (y : ℤ) → Contains (map (λ (p : Pos). p.y) (a ∷ rest)) y → (i : ℕ) × (i < length (a ∷ rest)) × ((get_or (a ∷ rest) i a).y ≡ y)
place_of a rest y c =
    let m : c.0 < length (a ∷ rest) = rw length-map at c.1 in
    (c.0, m, sym (get_or-map (λ (p : Pos). p.y) (a ∷ rest) c.0 a y m) ∙ c.2)

-- a ring that is not flat crosses the line half way up
half_way : (ring : List Pos) → 0 < length ring → south ring <ℤ north ring → 0 < length (ring_crossings (south ring +ℤ north ring) ring)
unfolding south north
half_way [] some tall = absurd (omega arith)
half_way (a ∷ rest) some tall =
    let h : ℤ = south (a ∷ rest) +ℤ north (a ∷ rest) in
    let long : 0 < length (map (λ (p : Pos). p.y) (a ∷ rest)) = omega arith in
    let low = place_of a rest (south (a ∷ rest)) (least_reached (map (λ (p : Pos). p.y) (a ∷ rest)) long) in
    let high = place_of a rest (north (a ∷ rest)) (greatest_reached (map (λ (p : Pos). p.y) (a ∷ rest)) long) in
    crosses h (a ∷ rest) low.0 high.0 a low.1 high.1 (le_is _ _ (under _ _ _ low.2 tall)) (le_is_not _ _ (over _ _ _ high.2 tall))

sum_from : (h : ℤ) (r : List Pos) (rs : List (List Pos)) → length (ring_crossings h r) ≤ length (flat_map (ring_crossings h) (r ∷ rs))
sum_from h r rs = omega (arith, length-append (ring_crossings h r) (flat_map (ring_crossings h) rs))

some_first : (rings : List (List Pos)) → IsPolygon rings → south (outer rings) <ℤ north (outer rings) → 0 < length (flat_map (ring_crossings (south (outer rings) +ℤ north (outer rings))) rings)
some_first [] polygon tall = absurd (omega (arith, polygon.0))
some_first (r ∷ rs) polygon tall =
    let head : IsRing r = All-head IsRing r rs polygon.1 in
    omega (arith, half_way r (omega (arith, head.0)) tall, sum_from (south r +ℤ north r) r rs)

two_from : (n : ℕ) → 0 < n → n % 2 ≡ 0 → 2 ≤ n
two_from n h k = omega arith

-- polygons that are not flat have two crossings half way up
pub crossings_two : (rings : List (List Pos)) → IsPolygon rings → south (outer rings) <ℤ north (outer rings) → 2 ≤ length (crossings (south (outer rings) +ℤ north (outer rings)) rings)
unfolding crossings
crossings_two rings polygon tall = two_from _ (some_first rings polygon tall) (rings_even (south (outer rings) +ℤ north (outer rings)) rings polygon.1)

-- ---- crossings lie in the world
picked : (s t : Bool) (x y z : ℤ) → cond s (Some x) (cond t (Some y) None) ≡ Some z → ((s ≡ true) × (x ≡ z)) ⊎ ((t ≡ true) × (y ≡ z))
picked true t x y z e = inl (refl, cc)
picked false true x y z e = inr (refl, cc)
picked false false x y z e = absurd (cc)

x_in : (h : ℤ) (a b : Pos) → rises h a b ≡ true → IsInWorld (x_at h a b)
x_in h a b r =
    let k = rises_bounds h a b r in
    height_in_world _ _ _ _ _ k.0 (weaker _ _ k.1) (apart _ _ _ k.0 k.1) a.world_x b.world_x

crossing_in : (h : ℤ) (e : Pos × Pos) (x : ℤ) → crossing h e ≡ Some x → IsInWorld x
crossing_in h e x is =
    let P : ℤ → Type 0 = λ z. IsInWorld z in
    elim (picked (rises h e.0 e.1) (rises h e.1 e.0) (x_at h e.0 e.1) (x_at h e.1 e.0) x is) [
      | inl k ↦ subst P k.1 (x_in h e.0 e.1 k.0)
      | inr k ↦ subst P k.1 (x_in h e.1 e.0 k.0)
    ]

option_in : (o : Option ℤ) (xs : List ℤ) → ((x : ℤ) → o ≡ Some x → IsInWorld x) → All IsInWorld xs → All IsInWorld (cons_option o xs)
option_in None xs f all = all
option_in (Some x) xs f all = All-cons IsInWorld x xs (f x refl) all

edges_in : (h : ℤ) (es : List (Pos × Pos)) → All IsInWorld (filter_map (crossing h) es)
edges_in h [] = All-nil IsInWorld
edges_in h (e ∷ es) = option_in (crossing h e) (filter_map (crossing h) es) (crossing_in h e) (edges_in h es)

rings_in : (h : ℤ) (rings : List (List Pos)) → All IsInWorld (flat_map (ring_crossings h) rings)
rings_in h [] = All-nil IsInWorld
rings_in h (r ∷ rs) = All-append IsInWorld (ring_crossings h r) (flat_map (ring_crossings h) rs) (edges_in h (edges r)) (rings_in h rs)

-- all crossings lie in the world
pub crossings_in : (h : ℤ) (rings : List (List Pos)) → All IsInWorld (crossings h rings)
unfolding crossings
crossings_in h rings = rings_in h rings
