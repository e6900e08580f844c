-- A tile has one body, and a query for a tile one reply.
use Rattle.std.proofs.Common.{◌≡◌, ℕ, zero, suc, ℤ, ◌*◌, ◌≤◌, Bool, List, Result, Ok, Err, refl, sym, ap, subst, ◌∙◌}
use Rattle.std.proofs.Props.{props}
use mathlib.Core.HLevel.{is_prop→PathP}
use Rattle.ml_ratio.specs.Fraction.{value_of, IsSame}
use Rattle.ml_ratio.specs.Number.{whole_number}
use Rattle.ml_ratio.specs.World.{IsInWorld}
use Rattle.ml_cone.specs.declared.view.View.{View}
use Rattle.ml_tile.specs.Place.{middle}
use Rattle.ml_tile.specs.Tile.{IsTileView}
use Rattle.ml_tile.specs.Words.{WritesTile, SomeColumn, IsDepthWord, IsFirstBadWord}
use Rattle.ml_tile.specs.declared.key.TileKey.{TileKey}
use Rattle.ml_editor.specs.State.{State}
use Rattle.ml_answer.specs.MapView.{IsViewText, json_body}
use Rattle.ml_http.specs.Alike.{LookAlike}
use Rattle.ml_http.specs.Replies.{json_reply}
use Rattle.ml_http.specs.Routes.{IsTileAsked}
use Rattle.ml_http.specs.Step.{LinkAnswer, Query, IsTileText, IsTileFor, IsTileAnswer}
use Rattle.ml_ratio.proofs.lemmas.Intervals.{equal_ratio}
use Rattle.ml_view.proofs.lemmas.OneView.{same_view, one_whole, one_side}
use Rattle.ml_http.proofs.SameReplies.{OneLabel, json_made, same_text}
use Rattle.ml_http.proofs.SameViews.{OneLongest}

-- ---- a tile has one view

view_of_tile : (z : ℕ) (i j : ℤ) (v u : View) → IsTileView z i j v → IsTileView z i j u → v ≡ u
view_of_tile z i j v u p q =
    let nums = p.num_is ∙ sym q.num_is in
    let dens = p.den_is ∙ sym q.den_is in
    let same : IsSame (value_of v.scale) (value_of u.scale) = ap (λ (n : ℕ). n * u.scale.den) nums ∙ ap (λ (n : ℕ). u.scale.num * n) (sym dens) in
    same_view v u (p.cx_is ∙ sym q.cx_is) (p.cy_is ∙ sym q.cy_is) (p.w_is ∙ sym q.w_is) (p.h_is ∙ sym q.h_is) (equal_ratio v.scale u.scale same)

-- a tile has one body on maps that look alike
pub one_body : OneLabel → OneLongest → (s t : State) (key : TileKey) (a b : List ℕ) → LookAlike s t → IsTileText s key a → IsTileText t key b → a ≡ b
one_body one longest s t key a b alike first second =
    let views = view_of_tile key.z key.i key.j second.0 first.0 second.1 first.1 in
    same_text one longest json_body json_made s t first.0 a b alike first.2 (subst (λ (v : View). IsViewText json_body t v b) views second.2)

-- ---- three words write one tile

key_same : (a b : TileKey) → a.z ≡ b.z → a.i ≡ b.i → a.j ≡ b.j → a ≡ b
key_same a b z i j t = record {
  z = z t;
  i = i t;
  j = j t;
  deep = is_prop→PathP (λ m. z m ≤ 21) (λ m. hlevel props) a.deep b.deep t;
  world_x = is_prop→PathP (λ m. IsInWorld (middle (z m) (i m))) (λ m. hlevel props) a.world_x b.world_x t;
  world_y = is_prop→PathP (λ m. IsInWorld (middle (z m) (j m))) (λ m. hlevel props) a.world_y b.world_y t;
}

module _ (z i j : List ℕ) where
  one_depth : (d e : ℕ) → IsDepthWord z d → IsDepthWord z e → d ≡ e
  one_depth d e p q = one_side (whole_number z) d e p.0 q.0

  one_key : (a b : TileKey) → WritesTile z i j a → WritesTile z i j b → a ≡ b
  one_key a b p q = key_same a b (one_depth a.z b.z p.z_is q.z_is) (one_whole (whole_number i) a.i b.i p.i_is.0 q.i_is.0) (one_whole (whole_number j) a.j b.j p.j_is.0 q.j_is.0)

  good_or_bad : (key : TileKey) (p : ℕ) → WritesTile z i j key → IsFirstBadWord z i j p → ⊥
  good_or_bad key zero writes bad = bad key.z writes.z_is
  good_or_bad key (suc zero) writes (d, is, never) = never (subst (λ (e : ℕ). SomeColumn e i) (one_depth key.z d writes.z_is is) (key.i, writes.i_is))
  good_or_bad key (suc (suc zero)) writes (d, is, some, never) = never (subst (λ (e : ℕ). SomeColumn e j) (one_depth key.z d writes.z_is is) (key.j, writes.j_is))
  good_or_bad key (suc (suc (suc n))) writes bad = absurd bad

  one_bad : (p q : ℕ) → IsFirstBadWord z i j p → IsFirstBadWord z i j q → p ≡ q
  one_bad zero zero v w = refl
  one_bad zero (suc zero) v (d, is, never) = absurd (v d is)
  one_bad zero (suc (suc zero)) v (d, is, some, never) = absurd (v d is)
  one_bad zero (suc (suc (suc n))) v w = absurd w
  one_bad (suc zero) zero (d, is, never) w = absurd (w d is)
  one_bad (suc zero) (suc zero) v w = refl
  one_bad (suc zero) (suc (suc zero)) (d, is, never) (e, are, some, other) = absurd (never (subst (λ (k : ℕ). SomeColumn k i) (one_depth e d are is) some))
  one_bad (suc zero) (suc (suc (suc n))) v w = absurd w
  one_bad (suc (suc zero)) zero (d, is, some, never) w = absurd (w d is)
  one_bad (suc (suc zero)) (suc zero) (d, is, some, never) (e, are, other) = absurd (other (subst (λ (k : ℕ). SomeColumn k i) (one_depth d e is are) some))
  one_bad (suc (suc zero)) (suc (suc zero)) v w = refl
  one_bad (suc (suc zero)) (suc (suc (suc n))) v w = absurd w
  one_bad (suc (suc (suc m))) q v w = absurd v

-- a query asks for one tile, or has one word that is the first to be wrong
pub one_asked : (query : Query) (a b : Result TileKey ℕ) → IsTileAsked query a → IsTileAsked query b → a ≡ b
one_asked query (Ok a) (Ok b) v w = ap Ok (one_key _ _ _ a b v w)
one_asked query (Ok a) (Err q) v w = absurd (good_or_bad _ _ _ a q v w)
one_asked query (Err p) (Ok b) v w = absurd (good_or_bad _ _ _ b p w v)
one_asked query (Err p) (Err q) v w = ap Err (one_bad _ _ _ p q v w)

replies_for : OneLabel → OneLongest → (s t : State) (closes : Bool) (asked : Result TileKey ℕ) (a b : LinkAnswer) (u v : State) →
    LookAlike s t → IsTileFor s closes asked a u → IsTileFor t closes asked b v → a.reply ≡ b.reply
replies_for one longest s t closes (Err place) a b u v alike first second =
    ap (λ (answer : LinkAnswer). answer.reply) first.is ∙ sym (ap (λ (answer : LinkAnswer). answer.reply) second.is)
replies_for one longest s t closes (Ok key) a b u v alike first second =
    ap (λ (answer : LinkAnswer). answer.reply) first.3 ∙ ap (json_reply 200 closes) (one_body one longest s t key first.0 second.0 alike first.1 second.1)
    ∙ sym (ap (λ (answer : LinkAnswer). answer.reply) second.3)

-- a query for a tile has one reply
pub one_reply : OneLabel → OneLongest → (s t : State) (closes : Bool) (query : Query) (a b : LinkAnswer) (u v : State) →
    LookAlike s t → IsTileAnswer s closes query a u → IsTileAnswer t closes query b v → a.reply ≡ b.reply
one_reply one longest s t closes query a b u v alike first second =
    replies_for one longest s t closes first.0 a b u v alike first.2 (subst (λ (asked : Result TileKey ℕ). IsTileFor t closes asked b v) (one_asked query second.0 first.0 second.1 first.1) second.2)
