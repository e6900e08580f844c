-- Tiles that go, and those that stay.
use Rattle.std.proofs.Common.{◌≡◌, ◌≢◌, ℕ, ◌+◌, ◌<◌, List, [], ◌∷◌, ◌++◌, length, take, get_or, Contains, ◌⊎◌, inl, inr, refl, sym, ap, subst, ◌∙◌, Option, Some, None, arith}
use Rattle.std.specs.Prelude.{◌↔◌}
use Rattle.std.proofs.lemmas.List.{take_more}
use Rattle.ml_cone.specs.declared.label.Label.{Label}
use Rattle.ml_cone.specs.declared.slot.Span.{Span}
use Rattle.ml_watch.specs.declared.change.Change.{Change}
use Rattle.ml_store.specs.Rows.{labels_in}
use Rattle.ml_store.specs.declared.row.Row.{Row}
use Rattle.ml_ratio.proofs.lemmas.Lists.{contains_map, map_contains}
use Rattle.ml_repair.specs.Changes.{IsTold, span_of}
use Rattle.ml_repair.specs.Edit.{IsEdited}
use Rattle.ml_repair.specs.Settled.{IsSettled}
use Rattle.ml_editor.specs.Editing.{IsLabelWith}
use Rattle.ml_tile.specs.Cache.{Cache, HeldTile, ShowsIn, Loses}
use Rattle.ml_tile.specs.declared.key.TileKey.{TileKey}
use Rattle.ml_http.specs.TileWork.{Drops, IsForgotten, ShowsId, ShowsChange, ShowsChanges}
use Rattle.ml_label.proofs.lemmas.SameLists.{here, later, cases, none_in_none}
use Rattle.ml_http.proofs.HeldTiles.{OneAnId}

-- what goes by the same rule in other words
loses_same : (P Q : TileKey → Type 0) (old new : List HeldTile) → ((key : TileKey) → P key ↔ Q key) → Loses P old new → Loses Q old new
loses_same P Q [] new same loses = loses
loses_same P Q (tile ∷ old) new same (inl (goes, loses)) = inl ((same tile.0).0 goes, loses_same P Q old new same loses)
loses_same P Q (tile ∷ old) new same (inr (rest, stays, is, loses)) = inr (rest, (λ q. stays ((same tile.0).1 q)), is, loses_same P Q old rest same loses)

loses_none : (P : TileKey → Type 0) (old : List HeldTile) → ((key : TileKey) → ¬ (P key)) → Loses P old old
loses_none P [] none = refl
loses_none P (tile ∷ old) none = inr (old, none tile.0, refl, loses_none P old none)

neither : {P Q : Type 0} → ¬ P → ¬ Q → ¬ (P ⊎ Q)
neither p q (inl a) = p a
neither p q (inr b) = q b

-- what goes first, and what goes then
loses_both : (P Q : TileKey → Type 0) (a b c : List HeldTile) → Loses P a b → Loses Q b c → Loses (λ key. P key ⊎ Q key) a c
loses_both P Q [] b c first second = subst (λ ts. Loses Q ts c) first second
loses_both P Q (tile ∷ a) b c (inl (goes, first)) second = inl (inl goes, loses_both P Q a b c first second)
loses_both P Q (tile ∷ a) b c (inr (rest, stays, is, first)) second = elim (subst (λ ts. Loses Q ts c) is second) [
  | inl gone ↦ inl (inr gone.0, loses_both P Q a rest c first gone.1)
  | inr left ↦ inr (left.0, neither stays left.1, left.2, loses_both P Q a rest left.0 first left.3)
]

-- what is left was there, and does not go
pub kept : (P : TileKey → Type 0) (old new : List HeldTile) (tile : HeldTile) → Loses P old new → Contains new tile → Contains old tile × ¬ (P tile.0)
kept P [] new tile loses there = absurd (none_in_none (subst (λ ts. Contains ts tile) loses there))
kept P (first ∷ old) new tile (inl (goes, loses)) there =
    let rest = kept P old new tile loses there in
    (later first tile old rest.0, rest.1)
kept P (first ∷ old) new tile (inr (rest, stays, is, loses)) there = elim (cases first tile rest (subst (λ ts. Contains ts tile) is there)) [
  | inl same ↦ (subst (Contains (first ∷ old)) same (here first old), subst (λ (x : HeldTile). ¬ (P x.0)) same stays)
  | inr others ↦ (let behind = kept P old rest tile loses others in (later first tile old behind.0, behind.1))
]

-- what goes by a rule goes by another that holds of the same tiles
pub drops_same : (P Q : TileKey → Type 0) (old new : Cache) → ((key : TileKey) → P key ↔ Q key) → Drops P old new → Drops Q old new
drops_same P Q old new same drops = record { tiles = loses_same P Q old.tiles new.tiles same drops.tiles; hits = drops.hits; skips = drops.skips }

-- by a rule that holds of no tile none goes
pub drops_none : (P : TileKey → Type 0) (old : Cache) → ((key : TileKey) → ¬ (P key)) → Drops P old old
drops_none P old none = record { tiles = loses_none P old.tiles none; hits = refl; skips = refl }

loses_of_none : (P : TileKey → Type 0) (old : List HeldTile) → length old ≡ 0 → Loses P old old
loses_of_none P [] none = refl
loses_of_none P (tile ∷ old) none = absurd (omega arith)

-- where there are no tiles none goes, whatever the rule
pub drops_of_none : (P : TileKey → Type 0) (old : Cache) → length old.tiles ≡ 0 → Drops P old old
drops_of_none P old none = record { tiles = loses_of_none P old.tiles none; hits = refl; skips = refl }

-- where some tiles go by one rule and then some by another, just those go of which either holds
pub drops_both : (P Q : TileKey → Type 0) (a b c : Cache) → Drops P a b → Drops Q b c → Drops (λ key. P key ⊎ Q key) a c
drops_both P Q a b c first second = record {
  tiles = loses_both P Q a.tiles b.tiles c.tiles first.tiles second.tiles;
  hits = second.hits ∙ first.hits;
  skips = second.skips ∙ first.skips;
}

-- no change shows anything
pub drops_no_change : (before after : List Row) (changes : List Change) (old : Cache) → Drops (ShowsChanges before after (take 0 changes)) old old
drops_no_change before after changes old = drops_none (ShowsChanges before after (take 0 changes)) old (λ key (change, there, shows). none_in_none there)

-- of one more change
one_more : (before after : List Row) (changes : List Change) (k : ℕ) (d : Change) (key : TileKey) → k < length changes →
    (ShowsChanges before after (take k changes) key ⊎ ShowsChange before after (get_or changes k d) key) ↔ ShowsChanges before after (take (k + 1) changes) key
one_more before after changes k d key within =
    let more : take (k + 1) changes ≡ take k changes ++ get_or changes k d ∷ [] = take_more changes k d within in (
      (λ either_. subst (λ cs. ShowsChanges before after cs key) (sym more) (add either_)),
      (λ shows. split (subst (λ cs. ShowsChanges before after cs key) more shows)),
    )
  where
    in_front : (xs ys : List Change) (x : Change) → Contains xs x → Contains (xs ++ ys) x
    in_front [] ys x there = absurd (none_in_none there)
    in_front (y ∷ xs) ys x there = elim (cases y x xs there) [
      | inl same ↦ subst (Contains (y ∷ (xs ++ ys))) same (here y (xs ++ ys))
      | inr others ↦ later y x (xs ++ ys) (in_front xs ys x others)
    ]

    at_end : (xs : List Change) (x : Change) → Contains (xs ++ x ∷ []) x
    at_end [] x = here x []
    at_end (y ∷ xs) x = later y x (xs ++ x ∷ []) (at_end xs x)

    front_or_end : (xs : List Change) (x y : Change) → Contains (xs ++ x ∷ []) y → Contains xs y ⊎ (x ≡ y)
    front_or_end [] x y there = elim (cases x y [] there) [
      | inl same ↦ inr same
      | inr none ↦ absurd (none_in_none none)
    ]
    front_or_end (z ∷ xs) x y there = elim (cases z y (xs ++ x ∷ []) there) [
      | inl same ↦ inl (subst (Contains (z ∷ xs)) same (here z xs))
      | inr others ↦ elim (front_or_end xs x y others) [
        | inl front ↦ inl (later z y xs front)
        | inr end ↦ inr end
      ]
    ]

    add : ShowsChanges before after (take k changes) key ⊎ ShowsChange before after (get_or changes k d) key → ShowsChanges before after (take k changes ++ get_or changes k d ∷ []) key
    add (inl shows) = (shows.0, in_front (take k changes) (get_or changes k d ∷ []) shows.0 shows.1, shows.2)
    add (inr shows) = (get_or changes k d, at_end (take k changes) (get_or changes k d), shows)

    split : ShowsChanges before after (take k changes ++ get_or changes k d ∷ []) key → ShowsChanges before after (take k changes) key ⊎ ShowsChange before after (get_or changes k d) key
    split shows = elim (front_or_end (take k changes) (get_or changes k d) shows.0 shows.1) [
      | inl front ↦ inl (shows.0, front, shows.2)
      | inr end ↦ inr (subst (λ c. ShowsChange before after c key) (sym end) shows.2)
    ]

-- once the tiles that show the first k changes are gone, and then those that show the next one, those of the first k + 1 are gone
pub drops_more : (before after : List Row) (changes : List Change) (k : ℕ) (d : Change) (a b c : Cache) → k < length changes →
    Drops (ShowsChanges before after (take k changes)) a b → Drops (ShowsChange before after (get_or changes k d)) b c → Drops (ShowsChanges before after (take (k + 1) changes)) a c
drops_more before after changes k d a b c within first second =
    drops_same (λ key. ShowsChanges before after (take k changes) key ⊎ ShowsChange before after (get_or changes k d) key) (ShowsChanges before after (take (k + 1) changes)) a c
    (λ key. one_more before after changes k d key within)
    (drops_both (ShowsChanges before after (take k changes)) (ShowsChange before after (get_or changes k d)) a b c first second)

-- the row of a label with an id
row_with : (rows : List Row) (label : Label) (id : List ℕ) → IsLabelWith (labels_in rows) (Some label) id → (r : Row) × Contains rows r × (r.label ≡ label) × (r.label.order.id ≡ id)
row_with rows label id there =
    let source = map_contains (λ r. r.label) rows label there.0 in
    (source.0, source.1, source.2, ap (λ l. l.order.id) source.2 ∙ there.1)

-- to forget a label with its active range is to drop the tiles that show its id
pub forgotten : OneAnId → (rows : List Row) (settled : IsSettled rows) (id : List ℕ) (label : Option Label) (told : Option Span) (old new : Cache) →
    IsTold rows id told → IsLabelWith (labels_in rows) label id → IsForgotten label told old new → Drops (ShowsId rows id) old new
forgotten one rows settled id None None old new none absent same =
    subst (Drops (ShowsId rows id) old) (sym same) (drops_none (ShowsId rows id) old (λ key (r, there, is, shows). none r there is))
forgotten one rows settled id (Some label) None old new none with_id same =
    subst (Drops (ShowsId rows id) old) (sym same) (drops_none (ShowsId rows id) old (λ key (r, there, is, shows). none r there is))
forgotten one rows settled id None (Some span) old new (r, there, is, spans) absent same =
    absurd (absent (r.label, contains_map (λ x. x.label) rows r there, is))
forgotten one rows settled id (Some label) (Some span) old new (r, there, is, spans) with_id drops =
    let own = row_with rows label id with_id in
    let same : r ≡ own.0 = one rows r own.0 settled there own.1 (is ∙ sym own.3) in
    let label_is : r.label ≡ label = ap (λ x. x.label) same ∙ own.2 in
    drops_same (ShowsIn label span) (ShowsId rows id) old new
    (λ key. (
      (λ shows. (r, there, is, subst (λ sp. ShowsIn r.label sp key) spans (subst (λ l. ShowsIn l span key) (sym label_is) shows))),
      (λ (q, in_rows, q_id, shows).
          let q_is : q ≡ r = one rows q r settled in_rows there (q_id ∙ sym is) in
          subst (λ l. ShowsIn l span key) label_is
          (subst (λ sp. ShowsIn r.label sp key) (sym spans) (subst (λ (x : Row). ShowsIn x.label (span_of x) key) q_is shows))),
    ))
    drops

-- the label with an id after an edit of the label with another
pub other_label : (before after : List Label) (id other : List ℕ) (come label : Option Label) → IsEdited id come before after →
    IsLabelWith after come id → other ≢ id → IsLabelWith before label other → IsLabelWith after label other
other_label before after id other come (Some label) edited came differ there =
    ((edited label).1 (inl (there.0, λ same. differ (sym there.1 ∙ same))), there.1)
other_label before after id other come None edited came differ absent = λ there. elim ((edited there.0).0 there.1) [
  | inl old ↦ absent (there.0, old.0, there.2)
  | inr new ↦ (let own = subst (λ o. IsLabelWith after o id) new came in differ (sym there.2 ∙ own.1))
]
