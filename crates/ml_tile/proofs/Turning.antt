-- Turning over all tiles, one after another, from the last to the first.
use Rattle.std.proofs.Common.{◌≡◌, ℕ, ◌-◌, ◌<◌, List, [], ◌∷◌, ◌++◌, length, refl, sym, ap, ◌∙◌, subst, arith, inl, inr, length-append, append-nil, append_assoc}
use Rattle.lru.proofs.Pairs.{cut_end}
use Rattle.ml_tile.specs.Cache.{HeldTile, Loses, Turns}
use Rattle.ml_tile.specs.declared.key.TileKey.{TileKey}

-- so many tiles are still to be looked at; those that stayed stand before them, in their order
pub record Turned (Goes : TileKey → Type 0) (old now : List HeldTile) (left : ℕ) : Type 0 where
  pub front : List HeldTile
  pub back : List HeldTile
  pub kept : List HeldTile
  pub stood : old ≡ front ++ back
  pub count : length front ≡ left
  pub stand : now ≡ kept ++ front
  pub loses : Loses Goes back kept

-- at first all tiles are still to be looked at, and none has gone
pub turned_none : (Goes : TileKey → Type 0) (old : List HeldTile) (left : ℕ) → left ≡ length old → Turned Goes old old left
turned_none Goes old left e = record { front = old; back = []; kept = []; stood = sym (append-nil old); count = sym e; stand = refl; loses = refl }

one_end : (us vs : List HeldTile) (x y : HeldTile) → us ++ x ∷ [] ≡ vs ++ y ∷ [] → (us ≡ vs) × (x ≡ y)
one_end [] [] x y e = (refl, cc)
one_end [] (v ∷ []) x y e = absurd (let n = ap length e in omega arith)
one_end [] (v ∷ w ∷ vs) x y e = absurd (let n = ap length e in omega arith)
one_end (u ∷ []) [] x y e = absurd (let n = ap length e in omega arith)
one_end (u ∷ w ∷ us) [] x y e = absurd (let n = ap length e in omega arith)
one_end (u ∷ us) (v ∷ vs) x y e =
    let head : u ≡ v = cc in
    let tail : us ++ x ∷ [] ≡ vs ++ y ∷ [] = cc in
    let on = one_end us vs x y tail in
    ((λ i. head i ∷ on.0 i), on.1)

-- one more tile was looked at
pub turned_more : (Goes : TileKey → Type 0) (old now new : List HeldTile) (left : ℕ) → 0 < left → Turned Goes old now left → Turns Goes now new → Turned Goes old new (left - 1)
turned_more Goes old now new left some t (inl none) =
    absurd (let n = ap length (sym t.stand ∙ none.0) in let c = t.count in omega (arith, length-append t.kept t.front))
turned_more Goes old now new left some t (inr turn) =
    let on = cut_end t.front (let c = t.count in omega arith) in
    let ends : (t.kept ++ on.0) ++ on.1 ∷ [] ≡ turn.0 ++ turn.1 ∷ [] = append_assoc t.kept on.0 (on.1 ∷ []) ∙ ap (λ l. t.kept ++ l) (sym on.2) ∙ sym t.stand ∙ turn.2 in
    let same = one_end (t.kept ++ on.0) turn.0 on.1 turn.1 ends in
    let count : length on.0 ≡ left - 1 = (let c = t.count in let n = ap length on.2 in omega (arith, length-append on.0 (on.1 ∷ []))) in
    let stood : old ≡ on.0 ++ (on.1 ∷ t.back) = t.stood ∙ ap (λ l. l ++ t.back) on.2 ∙ append_assoc on.0 (on.1 ∷ []) t.back in
    elim turn.3 [
      | inl goes ↦ record {
        front = on.0;
        back = on.1 ∷ t.back;
        kept = t.kept;
        stood = stood;
        count = count;
        stand = goes.1 ∙ sym same.0;
        loses = inl (subst (λ (x : HeldTile). Goes x.0) (sym same.1) goes.0, t.loses);
      }
      | inr stays ↦ record {
        front = on.0;
        back = on.1 ∷ t.back;
        kept = on.1 ∷ t.kept;
        stood = stood;
        count = count;
        stand = stays.1 ∙ sym (λ i. same.1 i ∷ same.0 i);
        loses = inr (t.kept, (λ g. stays.0 (subst (λ (x : HeldTile). Goes x.0) same.1 g)), refl, t.loses);
      }
    ]

-- all tiles were looked at
pub turned_all : (Goes : TileKey → Type 0) (old now : List HeldTile) (left : ℕ) → left ≡ 0 → Turned Goes old now left → Loses Goes old now
turned_all Goes old now left end t = all_by t.front t.back t.kept t.stood t.stand t.loses (t.count ∙ end)
  where
    all_by : (front back kept : List HeldTile) → old ≡ front ++ back → now ≡ kept ++ front → Loses Goes back kept → length front ≡ 0 → Loses Goes old now
    all_by [] back kept stood stand loses e = subst (λ l. Loses Goes l now) (sym stood) (subst (λ l. Loses Goes back l) (sym (stand ∙ append-nil kept)) loses)
    all_by (x ∷ front) back kept stood stand loses e = absurd (omega arith)
