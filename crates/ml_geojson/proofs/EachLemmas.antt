-- Items read one after another: what is read so far, and what is left.
use Rattle.std.proofs.Common.{◌≡◌, ℕ, suc, ◌+◌, ◌<◌, List, [], ◌∷◌, ◌++◌, length, map, get_or, drop, Ok, Err, refl, sym, ap, ◌∙◌, arith, append-nil, append_assoc}
use Rattle.std.specs.Prelude.{All}
use Rattle.std.proofs.lemmas.List.{map-append}
use Rattle.std.proofs.Math.Seq.{drop-cons}
use Rattle.std.proofs.lemmas.List.Elements.{All-push}
use Rattle.ml_json.specs.Lent.{lent_of, lents_view}
use Rattle.ml_json.specs.declared.lent.Lent.{Lent}
use Rattle.ml_json.specs.Tree.{Tree, Trees, none, more}
use Rattle.ml_geojson.specs.Positions.{Reading, then_made, each, filled}
use Rattle.ml_geojson.specs.declared.fault.GeoFault.{GeoFault}

-- what is read behind some values
abbrev pub behind : {X : Type 0} → List X → Reading (List X) → Reading (List X)
behind xs reading = then_made (λ ys. xs ++ ys) reading

module _ {X : Type 0} where
  -- what is read behind no values is just what is read
  pub behind_none : (reading : Reading (List X)) → reading ≡ behind [] reading
  behind_none (Ok ys) = refl
  behind_none (Err fault) = refl

  behind_more : (xs : List X) (x : X) (reading : Reading (List X)) → behind xs (then_made (λ ys. x ∷ ys) reading) ≡ behind (xs ++ x ∷ []) reading
  behind_more xs x (Ok ys) = ap Ok (sym (append_assoc xs (x ∷ []) ys))
  behind_more xs x (Err fault) = refl

  module _ (f : Tree → Reading X) (t : Tree) (ts : Trees) (xs : List X) where
    -- a further value
    pub each_next : (x : X) → f t ≡ Ok x → behind xs (each f (more t ts)) ≡ behind (xs ++ x ∷ []) (each f ts)
    each_next x e = rw e (behind_more xs x (each f ts))

    -- a fault
    pub each_stops : (fault : GeoFault) → f t ≡ Err fault → behind xs (each f (more t ts)) ≡ Err fault
    each_stops fault e = rw e refl

  -- the end
  pub each_ends : (f : Tree → Reading X) (xs : List X) → behind xs (each f none) ≡ Ok xs
  each_ends f xs = ap Ok (append-nil xs)

-- parts read one after another, but for empty ones
module _ {Y : Type 0} where
  filled_apart : (x : List Y) (ys : List (List Y)) → filled (x ∷ ys) ≡ filled (x ∷ []) ++ filled ys
  filled_apart [] ys = refl
  filled_apart (y ∷ x) ys = refl

  filled_more : (xs : List (List Y)) (x : List Y) (reading : Reading (List (List Y))) →
      behind xs (then_made filled (then_made (λ ys. x ∷ ys) reading)) ≡ behind (xs ++ filled (x ∷ [])) (then_made filled reading)
  filled_more xs x (Ok ys) = ap Ok (ap (λ zs. xs ++ zs) (filled_apart x ys) ∙ sym (append_assoc xs (filled (x ∷ [])) (filled ys)))
  filled_more xs x (Err fault) = refl

  module _ (f : Tree → Reading (List Y)) (t : Tree) (ts : Trees) (xs : List (List Y)) where
    -- a further part
    pub filled_next : (x : List Y) → f t ≡ Ok x → behind xs (then_made filled (each f (more t ts))) ≡ behind (xs ++ filled (x ∷ [])) (then_made filled (each f ts))
    filled_next x e = rw e (filled_more xs x (each f ts))

    -- a fault
    pub filled_stops : (fault : GeoFault) → f t ≡ Err fault → behind xs (then_made filled (each f (more t ts))) ≡ Err fault
    filled_stops fault e = rw e refl

  -- every part that is kept has what each that is not empty has
  pub all_filled : (P : List Y → Type 0) (xs : List (List Y)) (x : List Y) → All P xs → (0 < length x → P x) → All P (xs ++ filled (x ∷ []))
  all_filled P xs [] all h = rw (append-nil xs) all
  all_filled P xs (y ∷ x) all h = All-push P xs (y ∷ x) all (h (omega arith))

-- parts seen in another way
module _ {A B : Type 0} (view : A → B) where
  filled_seen : (x : List A) → map (map view) (filled (x ∷ [])) ≡ filled (map view x ∷ [])
  filled_seen [] = refl
  filled_seen (y ∷ x) = refl

  -- it is the same whether a further part, unless it is empty, comes in before or after the parts are seen so
  pub filled_view : (xs : List (List A)) (x : List A) → map (map view) (xs ++ filled (x ∷ [])) ≡ map (map view) xs ++ filled (map view x ∷ [])
  filled_view xs x = map-append (map view) xs (filled (x ∷ [])) ∙ ap (λ ys. map (map view) xs ++ ys) (filled_seen x)

  -- a further part, seen so
  pub parts_next : (f : Tree → Reading (List B)) (items : List Lent) (i : ℕ) (item : Lent) (parts new : List (List A)) (part : List A) (all : Reading (List (List B))) →
      i < length items → get_or items i item ≡ item → f (lent_of item) ≡ Ok (map view part) → new ≡ parts ++ filled (part ∷ []) →
      all ≡ behind (map (map view) parts) (then_made filled (each f (lents_view (drop i items)))) →
      all ≡ behind (map (map view) new) (then_made filled (each f (lents_view (drop (i + 1) items))))
  parts_next f items i item parts new part all less there reads added so_far =
      let further : suc i ≡ i + 1 = omega arith in
      let left : drop i items ≡ item ∷ drop (i + 1) items = drop-cons items i item less ∙ ap (λ (x : Lent). x ∷ drop (suc i) items) there ∙ ap (λ (n : ℕ). item ∷ drop n items) further in
      so_far ∙ ap (λ (xs : List Lent). behind (map (map view) parts) (then_made filled (each f (lents_view xs)))) left
      ∙ filled_next f (lent_of item) (lents_view (drop (i + 1) items)) (map (map view) parts) (map view part) reads
      ∙ ap (λ (xs : List (List B)). behind xs (then_made filled (each f (lents_view (drop (i + 1) items))))) (sym (filled_view parts part) ∙ ap (map (map view)) (sym added))
