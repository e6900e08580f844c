-- Whatever is answered, the bodies of tiles that are held stay right.
use Rattle.std.proofs.Common.{◌≡◌, ℕ, zero, suc, codes, Bool, List, [], ◌∷◌, ◌++◌, take, Contains, ◌⊎◌, inl, inr, sym, subst, Option, Some, None, Result, Ok, Err}
use Rattle.std.specs.Prelude.{MatchOption}
use Rattle.std.specs.Option.{option_map}
use Rattle.std.specs.Prelude.{unwrap_or}
use Rattle.ml_editor.specs.State.{State}
use Rattle.ml_editor.specs.Editing.{id_of}
use Rattle.ml_editor.specs.Faults.{Wish}
use Rattle.ml_editor.specs.declared.edit.Edit.{Edit}
use Rattle.ml_http.specs.Replies.{fault_reply}
use Rattle.ml_tile.specs.Cache.{Cache, HeldTile}
use Rattle.ml_tile.specs.declared.key.TileKey.{TileKey}
use Rattle.ml_request.specs.declared.request.Event.{Event}
use Rattle.ml_request.specs.declared.request.Event.TheVariants.{Whole, Refused}
use Rattle.ml_http.specs.declared.route.Route.{Route}
use Rattle.ml_http.specs.declared.route.Route.TheVariants as routes
use Rattle.ml_http.specs.declared.route.NoRoute.{NoRoute}
use Rattle.ml_http.specs.declared.route.EditRoute.{EditRoute}
use Rattle.ml_request.specs.Request.{RequestParts}
use Rattle.ml_http.specs.Routes.{path_of, query_of, query_pairs, route_of, named, revision_in}
use Rattle.ml_http.specs.Step.{LinkAnswer, Query, Stays, IsTileText, IsTileFor, IsCarriedOut, IsEditAnswered, wish_in, IsEditReply, IsRouted, MapStep}
use Rattle.ml_http.specs.Link.{AreTexts}
use Rattle.ml_http.specs.TileWork.{Changed, Remade, IsAsked, IsDoneTo}
use Rattle.ml_label.proofs.lemmas.SameLists.{here, later, cases, none_in_none}
use Rattle.ml_http.proofs.SameReplies.{OneLabel}
use Rattle.ml_http.proofs.SameViews.{OneLongest}
use Rattle.ml_http.proofs.HeldTiles.{StaysAfter, StaysBefore, OneAnId, text_stays}
use Rattle.ml_http.proofs.Dropping.{kept}

-- the tiles that are right after an answer, if those before it were
abbrev StayRight : State → State → LinkAnswer → Type 0
StayRight s t answer = (old new : Cache) → IsDoneTo answer.work answer.changes old new → AreTexts s old.tiles → AreTexts t new.tiles

-- nothing changes
stays_right : (s t : State) (reply : List ℕ) (answer : LinkAnswer) → Stays s reply answer t → StayRight s t answer
stays_right s t reply answer stays old new done texts =
    let same : new ≡ old = subst (λ (a : LinkAnswer). IsDoneTo a.work a.changes old new) stays.is done in
    subst (λ (c : Cache). AreTexts t c.tiles) (sym same) (subst (λ z. AreTexts z old.tiles) (sym stays.state) texts)

-- a tile that is among the first of some
within_first : (n : ℕ) (tiles : List HeldTile) (tile : HeldTile) → Contains (take n tiles) tile → Contains tiles tile
within_first zero tiles tile there = absurd (none_in_none there)
within_first (suc n) [] tile there = absurd (none_in_none there)
within_first (suc n) (first ∷ tiles) tile there = elim (cases first tile (take n tiles) there) [
  | inl same ↦ subst (Contains (first ∷ tiles)) same (here first tiles)
  | inr others ↦ later first tile tiles (within_first n tiles tile others)
]

in_front : (xs ys : List HeldTile) (x : HeldTile) → Contains xs x → Contains (xs ++ ys) x
in_front [] ys x there = absurd (none_in_none there)
in_front (y ∷ xs) ys x there = elim (cases y x xs there) [
  | inl same ↦ subst (Contains (y ∷ (xs ++ ys))) same (here y (xs ++ ys))
  | inr others ↦ later y x (xs ++ ys) (in_front xs ys x others)
]

in_back : (xs ys : List HeldTile) (x : HeldTile) → Contains ys x → Contains (xs ++ ys) x
in_back [] ys x there = there
in_back (y ∷ xs) ys x there = later y x (xs ++ ys) (in_back xs ys x there)

front_or_back : (xs ys : List HeldTile) (x : HeldTile) → Contains (xs ++ ys) x → Contains xs x ⊎ Contains ys x
front_or_back [] ys x there = inr there
front_or_back (y ∷ xs) ys x there = elim (cases y x (xs ++ ys) there) [
  | inl same ↦ inl (subst (Contains (y ∷ xs)) same (here y xs))
  | inr others ↦ elim (front_or_back xs ys x others) [
    | inl front ↦ inl (later y x xs front)
    | inr back ↦ inr back
  ]
]

-- a tile that has come to the front was there
moved : (key : TileKey) (body : List ℕ) (front back old : List HeldTile) (tile : HeldTile) → old ≡ front ++ (key, body) ∷ back → Contains ((key, body) ∷ (front ++ back)) tile → Contains old tile
moved key body front back old tile stood there =
    subst (λ ts. Contains ts tile) (sym stood) (elim (cases (key, body) tile (front ++ back) there) [
      | inl same ↦ in_back front ((key, body) ∷ back) tile (subst (Contains ((key, body) ∷ back)) same (here (key, body) back))
      | inr others ↦ elim (front_or_back front back tile others) [
        | inl first ↦ in_front front ((key, body) ∷ back) tile first
        | inr last ↦ in_back front ((key, body) ∷ back) tile (later (key, body) tile back last)
      ]
    ])

-- a tile is asked for
asked_right : (s : State) (key : TileKey) (text : List ℕ) (old new : Cache) → IsTileText s key text → IsAsked (key, text) old new → AreTexts s old.tiles → AreTexts s new.tiles
asked_right s key text old new right (inl (body, hit)) texts = λ tile there.
    texts tile (moved key body hit.tiles.front hit.tiles.back old.tiles tile hit.tiles.stood (subst (λ ts. Contains ts tile) hit.tiles.first there))
asked_right s key text old new right (inr (absent, inl (long, same))) texts = subst (λ (c : Cache). AreTexts s c.tiles) (sym same) texts
asked_right s key text old new right (inr (absent, inr (short, inr same))) texts = subst (λ (c : Cache). AreTexts s c.tiles) (sym same) texts
asked_right s key text old new right (inr (absent, inr (short, inl same))) texts = λ tile there.
    let among = within_first 256 ((key, text) ∷ old.tiles) tile (subst (λ (c : Cache). Contains c.tiles tile) same there) in
    elim (cases (key, text) tile old.tiles among) [
      | inl is ↦ subst (λ (x : HeldTile). IsTileText s x.0 x.1) is right
      | inr others ↦ texts tile others
    ]

tile_right : (s t : State) (closes : Bool) (asked : Result TileKey ℕ) (answer : LinkAnswer) → IsTileFor s closes asked answer t → StayRight s t answer
tile_right s t closes (Err place) answer stays old new done texts = stays_right s t _ answer stays old new done texts
tile_right s t closes (Ok key) answer (text, right, same, is) old new done texts =
    subst (λ z. AreTexts z new.tiles) (sym same)
    (asked_right s key text old new right (subst (λ (a : LinkAnswer). IsDoneTo a.work a.changes old new) is done) texts)

module _ (one : OneLabel) (longest : OneLongest) (stays_after : StaysAfter) (stays_before : StaysBefore) (one_an_id : OneAnId) where
  -- an edit is carried out
  work_right : (s t : State) (closes : Bool) (edit : Edit) (answer : LinkAnswer) (out : IsCarriedOut s closes edit answer t) (own : Option (List ℕ)) →
      answer.work ≡ unwrap_or (option_map (λ id. Changed out.before out.after) own) Remade → StayRight s t answer
  work_right s t closes edit answer out None work old new done texts =
      let emptied : new ≡ record old { tiles = [] } = subst (λ w. IsDoneTo w answer.changes old new) work done in
      subst (λ (c : Cache). AreTexts t c.tiles) (sym emptied) (λ tile there. absurd (none_in_none there))
  work_right s t closes edit answer out (Some id) work old new done texts = λ tile there.
      let drops = subst (λ w. IsDoneTo w answer.changes old new) work done in
      let stays = kept _ old.tiles new.tiles tile drops.tiles there in
      text_stays one longest stays_after stays_before one_an_id s t out.before out.after answer.changes out.rows_before out.rows_after out.changes tile.0 tile.1 stays.1 (texts tile stays.0)

  out_right : (s t : State) (closes : Bool) (edit : Edit) (answer : LinkAnswer) → IsCarriedOut s closes edit answer t → StayRight s t answer
  out_right s t closes edit answer out = work_right s t closes edit answer out (id_of edit) out.work

  edit_right : (s t : State) (rev : Option ℕ) (wish : Wish) (closes : Bool) (answer : LinkAnswer) → IsEditAnswered s rev wish closes answer t → StayRight s t answer
  edit_right s t rev wish closes answer (inl (fault, refused, (code, is_code, stays))) = stays_right s t (fault_reply closes code fault) answer stays
  edit_right s t rev wish closes answer (inr (edit, granted, out)) = out_right s t closes edit answer out

  -- what a query gives, or the reply where it gives nothing
  given_right : {X : Type 0} (s t : State) (reply : List ℕ) (answer : LinkAnswer) (o : Option X) (P : X → Type 0) →
      ((x : X) → P x → StayRight s t answer) → MatchOption o (Stays s reply answer t) P → StayRight s t answer
  given_right s t reply answer None P each stays = stays_right s t reply answer stays
  given_right s t reply answer (Some x) P each is = each x is

  edited_right : (route : EditRoute) (s t : State) (closes : Bool) (query : Query) (body : List ℕ) (answer : LinkAnswer) → IsEditReply route s closes query body answer t → StayRight s t answer
  edited_right route s t closes query body answer is =
      given_right s t _ answer (wish_in route query body) _
      (λ wish v. given_right s t _ answer (revision_in (named (codes "rev") query)) _ (λ rev p. edit_right s t rev wish closes answer p) v) is

  routed_right : (routed : Result Route NoRoute) (s t : State) (request : RequestParts) (answer : LinkAnswer) → IsRouted routed s request answer t → StayRight s t answer
  routed_right (Err none) s t request answer stays = stays_right s t _ answer stays
  routed_right (Ok (routes.Read route)) s t request answer (reply, read, stays) = stays_right s t reply answer stays
  routed_right (Ok routes.Tile) s t request answer (asked, is, told) = tile_right s t request.closes asked answer told
  routed_right (Ok (routes.Edit route)) s t request answer edited = edited_right route s t request.closes (query_pairs (query_of request.target)) request.body answer edited

  -- whatever event is answered, each body that is held stays that of its tile
  pub step_right : (s t : State) (event : Event) (answer : LinkAnswer) → MapStep s event answer t → StayRight s t answer
  step_right s t (Refused refusal) answer stays = stays_right s t _ answer stays
  step_right s t (Whole request) answer is = routed_right (route_of request.method (path_of request.target)) s t request answer is
