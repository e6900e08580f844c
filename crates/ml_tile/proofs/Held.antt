-- Held tiles by their keys, and the cache's words as lists.
use Rattle.std.proofs.Common.{◌≡◌, ℕ, ◌-◌, Bool, true, false, List, [], ◌∷◌, ◌++◌, length, take, Option, Some, None, Contains, is_some, option_map, refl, sym, ap, ◌∙◌, subst, arith}
use Rattle.std.specs.Prelude.{MatchBool, MatchOption}
use Rattle.std.specs.List.{IsDistinct}
use Rattle.std.specs.Map.{keys_of, lookup, lookup_entry, remove_entry}
use Rattle.std.proofs.lemmas.Bool.{false≢true}
use Rattle.std.proofs.lemmas.Map.Keys.{IsDistinct-head, IsDistinct-tail}
use Rattle.std.proofs.lemmas.Map.Made.{AllPairs-from_IsDistinct}
use Rattle.lru.specs.LruCache.{LruCache, IsValid, last_entry, promoted, put_entries}
use Rattle.lru.proofs.CallerLemmas.{Contains-lookup, Contains-lookup_entry}
use Rattle.lru.proofs.Matching.{none_found}
use Rattle.lru.proofs.Pairs.{cut_end, last_of_push, lookup-lookup_entry}
use Rattle.lru.proofs.Splits.{all_at, Contains-head, Contains-tail, Contains-middle}
use Rattle.ml_tile.specs.Cache.{HeldTile, IsHeld, ComesFirst, AreFewTiles}
use Rattle.ml_tile.specs.declared.key.TileKey.{TileKey}
use Rattle.ml_tile.proofs.Keys.{same_key, key_of_same, same_decides, same_itself}

-- what a look-up of a tile gave, a body or none, tells whether the tile is held
pub look_by : (key : TileKey) (es : List HeldTile) (o : Option (List ℕ)) → lookup (same_key key) es ≡ o → MatchBool (is_some o) (IsHeld key es) (¬ (IsHeld key es))
look_by key es (Some v) h = let c = Contains-lookup (same_key key) es v h in (v, subst (λ k. Contains es (k, v)) (sym (key_of_same key c.0 c.2)) c.1)
look_by key es None h = λ held. false≢true (sym (none_found (same_key key) es h (key, held.0) held.1) ∙ same_itself key)

-- a look-up tells whether the tile is held
pub look : (key : TileKey) (es : List HeldTile) → MatchBool (is_some (lookup (same_key key) es)) (IsHeld key es) (¬ (IsHeld key es))
look key es = look_by key es (lookup (same_key key) es) refl

absent_by : (key : TileKey) (es : List HeldTile) (o : Option HeldTile) → ¬ (IsHeld key es) → lookup_entry (same_key key) es ≡ o → o ≡ None
absent_by key es None h e = refl
absent_by key es (Some (k, v)) h e = let c = Contains-lookup_entry (same_key key) es (k, v) e in absurd (h (v, subst (λ q. Contains es (q, v)) (sym (key_of_same key k c.1)) c.0))

absent : (key : TileKey) (es : List HeldTile) → ¬ (IsHeld key es) → lookup_entry (same_key key) es ≡ None
absent key es h = absent_by key es (lookup_entry (same_key key) es) h refl

-- a tile that is not held goes first, and the last one of a full cache goes
pub put_new : (c : LruCache TileKey (List ℕ)) (key : TileKey) (body : List ℕ) → ¬ (IsHeld key c.entries) → c.cap ≡ 256 → put_entries same_key c key body ≡ take 256 ((key, body) ∷ c.entries)
put_new c key body h cap = rw (absent key c.entries h, cap) refl

-- so the cache holds each tile once, and no more than it may
pub few_tiles : (c : LruCache TileKey (List ℕ)) → IsValid same_key c → c.cap ≡ 256 → AreFewTiles c.entries
few_tiles c h most = record {
  once = AllPairs-from_IsDistinct same_decides (keys_of c.entries) h.0;
  few = let few = h.1 in omega arith;
}

ends_by : (es : List HeldTile) (o : Option HeldTile) → last_entry es ≡ o → MatchOption o (es ≡ []) (λ last. (front : List HeldTile) × (es ≡ front ++ last ∷ []))
ends_by [] None h = refl
ends_by [] (Some last) h = cc
ends_by (e ∷ es) o h =
    let on = cut_end (e ∷ es) (omega arith) in
    let same : Some on.1 ≡ o = sym (ap last_entry on.2 ∙ (last_of_push on.0 on.1).0) ∙ h in
    subst (λ p. MatchOption p (e ∷ es ≡ []) (λ last. (front : List HeldTile) × (e ∷ es ≡ front ++ last ∷ []))) same (on.0, on.2)

-- the last tile, and those before it
pub ends : (es : List HeldTile) → MatchOption (last_entry es) (es ≡ []) (λ last. (front : List HeldTile) × (es ≡ front ++ last ∷ []))
ends es = ends_by es (last_entry es) refl

-- without the last tile the others are left
pub popped : (es front : List HeldTile) (last : HeldTile) → es ≡ front ++ last ∷ [] → take (length es - 1) es ≡ front
popped es front last e = subst (λ l. take (length l - 1) l ≡ front) (sym e) (last_of_push front last).1

key_among : (front : List HeldTile) (key : TileKey) (body : List ℕ) → Contains (keys_of (front ++ (key, body) ∷ [])) key
key_among [] key body = Contains-head key []
key_among (e ∷ front) key body = Contains-tail e.0 (keys_of (front ++ (key, body) ∷ [])) key (key_among front key body)

-- the last of tiles that are each there once is found by its key
pub found_last : (front : List HeldTile) (key : TileKey) (body : List ℕ) → IsDistinct same_key (keys_of (front ++ (key, body) ∷ [])) →
    (lookup_entry (same_key key) (front ++ (key, body) ∷ []) ≡ Some (key, body)) × (remove_entry (same_key key) (front ++ (key, body) ∷ []) ≡ front)
found_last [] key body d = (rw (same_itself key) refl, rw (same_itself key) refl)
found_last (e ∷ front) key body d =
    let on = found_last front key body (IsDistinct-tail same_key e.0 (keys_of (front ++ (key, body) ∷ [])) d) in
    let differ = all_at (λ y. same_key e.0 y ≡ false) (keys_of (front ++ (key, body) ∷ [])) key (IsDistinct-head same_key e.0 (keys_of (front ++ (key, body) ∷ [])) d) (key_among front key body) in
    let other : same_key key e.0 ≡ false = other_way (same_key key e.0) e.0 key refl differ in
    (rw other on.0, rw other (ap (λ l. e ∷ l) on.1))
  where
    other_way : (b : Bool) (k key : TileKey) → same_key key k ≡ b → same_key k key ≡ false → b ≡ false
    other_way false k key h differ = refl
    other_way true k key h differ = absurd (false≢true (sym (subst (λ q. same_key q key ≡ false) (sym (key_of_same key k h)) differ) ∙ same_itself key))

-- the last tile comes to the front
pub promoted_last : (es front : List HeldTile) (key : TileKey) (body : List ℕ) → IsDistinct same_key (keys_of es) → es ≡ front ++ (key, body) ∷ [] → promoted (same_key key) es ≡ (key, body) ∷ front
promoted_last es front key body d e =
    let f = found_last front key body (subst (λ l. IsDistinct same_key (keys_of l)) e d) in
    ap (promoted (same_key key)) e ∙ rw (f.0, f.1) refl

-- the tile that is found, between the others
cut_found : (key : TileKey) (es : List HeldTile) (e : HeldTile) → lookup_entry (same_key key) es ≡ Some e →
    (front : List HeldTile) × (back : List HeldTile) × (es ≡ front ++ e ∷ back) × (remove_entry (same_key key) es ≡ front ++ back)
cut_found key [] e h = cc
cut_found key (f ∷ es) e h =
    (elim (same_key key f.0) as (λ y. same_key key f.0 ≡ y → (front : List HeldTile) × (back : List HeldTile) × (f ∷ es ≡ front ++ e ∷ back) × (remove_entry (same_key key) (f ∷ es) ≡ front ++ back)) [
      | true ↦ λ t. let h' = rw t at h in let same : f ≡ e = cc in ([], es, ap (λ g. g ∷ es) same, rw t refl)
      | false ↦ λ t. let on = cut_found key es e (rw t at h) in (f ∷ on.0, on.1, ap (λ l. f ∷ l) on.2, rw t (ap (λ l. f ∷ l) on.3))
    ]) refl

hit_by : (key : TileKey) (es : List HeldTile) (o : Option HeldTile) → lookup_entry (same_key key) es ≡ o → is_some o ≡ true → (body : List ℕ) × ComesFirst key body es (promoted (same_key key) es)
hit_by key es None h some = absurd (false≢true some)
hit_by key es (Some (k, v)) h some =
    let c = cut_found key es (k, v) h in
    let same : k ≡ key = sym (key_of_same key k (Contains-lookup_entry (same_key key) es (k, v) h).1) in (
      v,
      record {
        front = c.0;
        back = c.1;
        stood = c.2 ∙ ap (λ q. c.0 ++ (q, v) ∷ c.1) same;
        first = rw (h, c.3) (ap (λ q. (q, v) ∷ (c.0 ++ c.1)) same);
      },
    )

found_alike : (key : TileKey) (es : List HeldTile) → is_some (lookup_entry (same_key key) es) ≡ is_some (lookup (same_key key) es)
found_alike key es = some_alike (lookup_entry (same_key key) es) ∙ ap is_some (lookup-lookup_entry (same_key key) es)
  where
    some_alike : (o : Option HeldTile) → is_some o ≡ is_some (option_map (λ e. e.1) o)
    some_alike None = refl
    some_alike (Some e) = refl

-- a tile that is found comes to the front
pub hit_of : (key : TileKey) (es : List HeldTile) (b : Bool) → b ≡ is_some (lookup (same_key key) es) → b ≡ true → (body : List ℕ) × ComesFirst key body es (promoted (same_key key) es)
hit_of key es b e t = hit_by key es (lookup_entry (same_key key) es) refl (found_alike key es ∙ sym e ∙ t)

-- where no tile is found, the tiles stay
pub miss_of : (key : TileKey) (es : List HeldTile) (b : Bool) → b ≡ is_some (lookup (same_key key) es) → b ≡ false → (¬ (IsHeld key es)) × (promoted (same_key key) es ≡ es)
miss_of key es b e f =
    let none = not_held (is_some (lookup (same_key key) es)) (sym e ∙ f) (look key es) in
    (none, rw (absent key es none) refl)
  where
    not_held : (b : Bool) → b ≡ false → MatchBool b (IsHeld key es) (¬ (IsHeld key es)) → ¬ (IsHeld key es)
    not_held false h m = m
    not_held true h m = absurd (false≢true (sym h))

-- the body of a tile that came to the front is found
pub first_found : (key : TileKey) (body : List ℕ) (old new : List HeldTile) → ComesFirst key body old new → lookup (same_key key) new ≡ Some body
first_found key body old new c = rw (c.first, same_itself key) refl

-- a tile that came to the front was held
pub was_held : (key : TileKey) (body : List ℕ) (old new : List HeldTile) → ComesFirst key body old new → Contains old (key, body)
was_held key body old new c = subst (λ l. Contains l (key, body)) (sym c.stood) (Contains-middle c.front (key, body) c.back)
