-- Rings that are closed, in positions and in places.
use Rattle.std.proofs.Common.{◌≡◌, ℕ, ◌-◌, ◌<◌, ◌≤◌, List, [], ◌∷◌, ◌++◌, length, Bool, true, false, cond, Some, None, Ok, Err, refl, sym, ap, ◌∙◌, arith}
use Rattle.std.specs.Prelude.{nat_lt, slice_get}
use Rattle.std.proofs.lemmas.Bool.Decides.{nat_tests}
use Rattle.std.proofs.lemmas.List.{map-append}
use Rattle.ml_json.specs.Lent.{lents_view}
use Rattle.ml_json.specs.declared.lent.Lent.{Lent}
use Rattle.ml_ratio.specs.declared.geometry.Pos.{Pos}
use Rattle.ml_geojson.specs.Shape.{point, place_of, places_of}
use Rattle.ml_geojson.specs.Positions.{Reading, then_made, is_same, last_place, closed, long_ring, position}
use Rattle.ml_geojson.specs.declared.fault.GeoFault.TheVariants.{NotJson, Deep, NotCollection, NotFeature, BadGeometry, OutOfRange, ShortRing, NoId, Memory}
use Rattle.ml_geojson.specs.declared.fault.GeoFault.{GeoFault}
use Rattle.ml_geojson.specs.Fault.{Refuses}
use Rattle.ml_geojson.specs.Geometry.{point_shape}

some_same : {A : Type 0} {a b : A} → Some a ≡ Some b → a ≡ b
some_same e = cc

-- the last place is that of the last position
last_of : (first last : Pos) (rest : List Pos) → slice_get (first ∷ rest) (length rest) ≡ Some last → last_place (place_of first) (places_of rest) ≡ place_of last
last_of first last [] e = ap place_of (some_same e)
last_of first last (next ∷ rest) e = last_of next last rest e

module _ (ring : List Pos) (first last : Pos) (a : slice_get ring 0 ≡ Some first) (b : slice_get ring (length ring - 1) ≡ Some last) where
  same_by : (t : Bool) → is_same (place_of first) (place_of last) ≡ t → (ps : List Pos) → slice_get ps 0 ≡ Some first →
      slice_get ps (length ps - 1) ≡ Some last → closed (places_of ps) ≡ cond t (places_of ps) (places_of (ps ++ first ∷ []))
  same_by t same [] c e = absurd (let f : None ≡ Some first = c in cc)
  same_by t same (p ∷ rest) c e =
      let at_end : last_place (place_of p) (places_of rest) ≡ place_of last = last_of p last rest (ap (slice_get (p ∷ rest)) (omega arith) ∙ e) in
      let here : is_same (place_of p) (last_place (place_of p) (places_of rest)) ≡ t = ap (is_same (place_of p)) at_end ∙ ap (λ (q : Pos). is_same (place_of q) (place_of last)) (some_same c) ∙ same in
      let again : places_of (p ∷ rest) ++ place_of p ∷ [] ≡ places_of ((p ∷ rest) ++ first ∷ []) =
      ap (λ (q : Pos). places_of (p ∷ rest) ++ place_of q ∷ []) (some_same c) ∙ sym (map-append place_of (p ∷ rest) (first ∷ [])) in
      ap (λ (u : Bool). cond u (places_of (p ∷ rest)) (places_of (p ∷ rest) ++ place_of p ∷ [])) here ∙ ap (cond t (places_of (p ∷ rest))) again

  -- a ring that is closed stays
  pub closed_stays : is_same (place_of first) (place_of last) ≡ true → closed (places_of ring) ≡ places_of ring
  closed_stays same = same_by true same ring a b

  -- an open one gets its first position again
  pub open_closes : is_same (place_of first) (place_of last) ≡ false → closed (places_of ring) ≡ places_of (ring ++ first ∷ [])
  open_closes other = same_by false other ring a b

-- a ring of few positions, or of enough
module _ {X Y : Type 0} (f : X → Y) (reading : Reading X) where
  refused : (fault : GeoFault) → Refuses fault reading → Refuses fault (then_made f reading)
  refused (NotJson at) h = rw h refl
  refused (Deep at) h = rw h refl
  refused NotCollection h = rw h refl
  refused (NotFeature k) h = rw h refl
  refused (BadGeometry k) h = rw h refl
  refused (OutOfRange k) h = rw h refl
  refused (ShortRing k) h = rw h refl
  refused NoId h = rw h refl
  refused Memory h = tt

module _ (k : ℕ) where
  -- a ring of one, two or three positions is refused as too short
  pub short : (ring : List Pos) → 0 < length ring → length ring < 4 → long_ring k (places_of ring) ≡ Err (ShortRing k)
  short [] some few = absurd (omega arith)
  short (a ∷ []) some few = refl
  short (a ∷ b ∷ []) some few = refl
  short (a ∷ b ∷ c ∷ []) some few = refl
  short (a ∷ b ∷ c ∷ d ∷ ring) some few = absurd (omega arith)

  -- a ring of four positions or more, or of none, is read as it is
  pub long : (ring : List Pos) → (0 < length ring → 4 ≤ length ring) → long_ring k (places_of ring) ≡ Ok (places_of ring)
  long [] many = refl
  long (a ∷ []) many = absurd (let h : 4 ≤ 1 = many (omega arith) in omega arith)
  long (a ∷ b ∷ []) many = absurd (let h : 4 ≤ 2 = many (omega arith) in omega arith)
  long (a ∷ b ∷ c ∷ []) many = absurd (let h : 4 ≤ 3 = many (omega arith) in omega arith)
  long (a ∷ b ∷ c ∷ d ∷ ring) many =
      let enough : nat_lt (length (places_of (a ∷ b ∷ c ∷ d ∷ ring))) 4 ≡ false = grind (arith, nat_tests) in
      ap (λ (t : Bool). cond t (Err (ShortRing k)) (Ok (places_of (a ∷ b ∷ c ∷ d ∷ ring)))) enough

  -- a fault of a position is one of a point
  pub no_point : (items : List Lent) (fault : GeoFault) → 0 < length items → Refuses fault (position k (lents_view items)) → Refuses fault (point_shape k (lents_view items))
  no_point [] fault some h = absurd (omega arith)
  no_point (x ∷ items) fault some h = refused (λ place. Some (point place)) (position k (lents_view (x ∷ items))) fault h

  -- fewer than two numbers are no position
  pub no_position : (items : List Lent) → length items < 2 → position k (lents_view items) ≡ Err (BadGeometry k)
  no_position [] few = refl
  no_position (x ∷ []) few = refl
  no_position (x ∷ y ∷ items) few = absurd (omega arith)
