-- What a crossing says of its edge.
use Rattle.std.proofs.Common.{◌≡◌, ℕ, ◌+◌, ◌-◌, ◌<◌, List, [], ◌∷◌, ◌++◌, length, get_or, take, drop, Option, Some, None, ℤ, ◌≤◌, pos, ◌*ℤ◌, ◌<ℤ◌, ◌≤ℤ◌, true, refl, sym, ap, ◌∙◌, arith}
use Rattle.std.proofs.lemmas.List.{length-drop, get_or-drop, take_more, get_or_read, append_assoc, take_all, flat_map_more}
use Rattle.std.proofs.lemmas.List.Elements.{filter_map-append}
use Rattle.std.proofs.lemmas.Slice.Zip.{length-zip, get_or-zip}
use Rattle.std.specs.List.{filter_map, flat_map, cons_option}
use Rattle.std.specs.Option.{option_to_list}
use Rattle.std.proofs.lemmas.Bool.{and_parts}
use Rattle.std.proofs.lemmas.Int.{ints}
use Rattle.std.specs.Prelude.{int_le, int_lt}
use Rattle.ml_ratio.specs.declared.geometry.Pos.{Pos}
use Rattle.ml_anchor.specs.Ring.{edges}
use Rattle.ml_anchor.specs.Scan.{rises, crossing, ring_crossings, crossings}

le_true : (a b : ℤ) → int_le a b ≡ true → a ≤ℤ b
le_true a b h = grind (arith, ints)

lt_true : (a b : ℤ) → int_lt a b ≡ true → a <ℤ b
lt_true a b h = grind (arith, ints)

-- the line lies from the lower end to below the upper one
pub rises_bounds : (h : ℤ) (a b : Pos) → rises h a b ≡ true → ((pos 2 *ℤ a.y) ≤ℤ h) × (h <ℤ (pos 2 *ℤ b.y))
rises_bounds h a b r =
    let p = and_parts (int_le (pos 2 *ℤ a.y) h) (int_lt h (pos 2 *ℤ b.y)) r in
    (le_true _ _ p.0, lt_true _ _ p.1)

length-edges : (ring : List Pos) → length (edges ring) ≡ length ring - 1
length-edges [] = refl
length-edges (p ∷ ps) = length-zip (p ∷ ps) ps ∙ omega arith

edge_at : (ring : List Pos) (i : ℕ) (d : Pos) → 0 < i → i < length ring → get_or (edges ring) (i - 1) (d, d) ≡ (get_or ring (i - 1) d, get_or ring i d)
edge_at ring i d h k = get_or-zip ring (drop 1 ring) (i - 1) (d, d) (omega arith) (simp length-drop (omega arith))
    ∙ ap (λ (q : Pos). (get_or ring (i - 1) d, q)) (get_or-drop 1 ring (i - 1) d ∙ ap (λ (n : ℕ). get_or ring n d) (omega arith))

one_option : (o : Option ℤ) → option_to_list o ≡ cons_option o []
one_option None = refl
one_option (Some x) = refl

-- one edge more
pub edges_more : (h : ℤ) (ring : List Pos) (i : ℕ) (a b : Pos) (had found : List ℤ) → 0 < i → i < length ring →
    a ≡ get_or ring (i - 1) a → b ≡ get_or ring i b → found ≡ had ++ filter_map (crossing h) (take (i - 1) (edges ring)) →
    found ++ option_to_list (crossing h (a, b)) ≡ had ++ filter_map (crossing h) (take (i + 1 - 1) (edges ring))
edges_more h ring i a b had found p q ea eb e =
    let E : List (Pos × Pos) = edges ring in
    let f : Pos × Pos → Option ℤ = crossing h in
    let done : List ℤ = filter_map (crossing h) (take (i - 1) (edges ring)) in
    let n : i - 1 < length (edges ring) = rw length-edges (omega arith) in
    let s : i + 1 - 1 ≡ (i - 1) + 1 = omega arith in
    let m = take_more (edges ring) (i - 1) (a, a) n in
    let at = edge_at ring i a p q in
    let db = get_or_read ring i b q eb a in
    let at' : get_or (edges ring) (i - 1) (a, a) ≡ (a, b) = cc in
    ap (λ (xs : List ℤ). xs ++ option_to_list (crossing h (a, b))) e
    ∙ append_assoc had done (option_to_list (crossing h (a, b)))
    ∙ ap (λ (xs : List ℤ). had ++ xs) (
    ap (λ (y : List ℤ). done ++ y) (one_option (crossing h (a, b)))
    ∙ ap (λ (x : Pos × Pos). done ++ filter_map f (x ∷ [])) (sym at')
    ∙ sym (filter_map-append f (take (i - 1) E) (get_or E (i - 1) (a, a) ∷ []))
    ∙ ap (λ (xs : List (Pos × Pos)). filter_map f xs) (sym m)
    ∙ ap (λ (k : ℕ). filter_map f (take k E)) (sym s))

-- all edges
pub edges_all : (h : ℤ) (ring : List Pos) (i : ℕ) (had found : List ℤ) → length ring ≤ i → found ≡ had ++ filter_map (crossing h) (take (i - 1) (edges ring)) → found ≡ had ++ ring_crossings h ring
edges_all h ring i had found k e =
    let whole : take (i - 1) (edges ring) ≡ edges ring = take_all (i - 1) (edges ring) (rw length-edges (omega arith)) in
    e ∙ ap (λ (xs : List (Pos × Pos)). had ++ filter_map (crossing h) xs) whole

-- one ring more
pub rings_more : (h : ℤ) (rings : List (List Pos)) (i : ℕ) (d : List Pos) (had found : List ℤ) → i < length rings →
    had ≡ flat_map (ring_crossings h) (take i rings) → found ≡ had ++ ring_crossings h (get_or rings i d) → found ≡ flat_map (ring_crossings h) (take (i + 1) rings)
rings_more h rings i d had found q e k =
    k
    ∙ ap (λ (xs : List ℤ). xs ++ ring_crossings h (get_or rings i d)) e
    ∙ flat_map_more (ring_crossings h) [] (take i rings) (get_or rings i d)
    ∙ ap (λ (rs : List (List Pos)). flat_map (ring_crossings h) rs) (sym (take_more rings i d q))

-- all rings
pub rings_all : (h : ℤ) (rings : List (List Pos)) (i : ℕ) (found : List ℤ) → length rings ≤ i → found ≡ flat_map (ring_crossings h) (take i rings) → found ≡ crossings h rings
unfolding crossings
rings_all h rings i found k e = e ∙ ap (λ (rs : List (List Pos)). flat_map (ring_crossings h) rs) (take_all i rings k)
