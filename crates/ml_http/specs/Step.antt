-- The machine: what a request is answered, and the state that the map is in afterwards.
use Rattle.std.specs.Prelude.{◌≡◌, ◌⊎◌, ℕ, zero, suc, Bool, List, [], length, codes, Contains, Option, Some, None, unwrap_or, Result, Ok, Err, MatchOption}
use Rattle.std.specs.Option.{option_map}
use Rattle.ml_ratio.specs.declared.feature.Feature.{Feature}
use Rattle.ml_cone.specs.declared.view.View.{View}
use Rattle.ml_geojson.specs.Text.{collection_text}
use Rattle.ml_label.specs.Labelling.{IsLabelling}
use Rattle.ml_watch.specs.declared.change.Change.{Change}
use Rattle.ml_tile.specs.Cache.{HeldTile}
use Rattle.ml_tile.specs.Tile.{IsTileView}
use Rattle.ml_tile.specs.declared.key.TileKey.{TileKey}
use Rattle.ml_store.specs.Rows.{labels_in, slots_in}
use Rattle.ml_store.specs.declared.row.Row.{Row}
use Rattle.ml_repair.specs.Changes.{AreChanges}
use Rattle.ml_editor.specs.State.{State, HasFeature, step}
use Rattle.ml_editor.specs.Editing.{IsEditCost, id_of}
use Rattle.ml_editor.specs.Faults.{Wish, adds, replaces, removes, restyles, IsFault, IsGranted}
use Rattle.ml_editor.specs.declared.edit.Edit.{Edit}
use Rattle.ml_editor.specs.declared.fault.EditFault.{EditFault}
use Rattle.ml_editor.specs.declared.fault.EditFault.TheVariants as faults
use Rattle.ml_editor.specs.declared.standing.Standing.{Standing}
use Rattle.ml_editor.specs.declared.standing.Standing.TheVariants.{Unlabelled, Labelled}
use Rattle.ml_answer.specs.Edit.{edit_text, rev_text}
use Rattle.ml_answer.specs.Fault.{fault_text}
use Rattle.ml_answer.specs.Reason.{reason_text}
use Rattle.ml_answer.specs.Slot.{slot_text}
use Rattle.ml_answer.specs.MapView.{AreRowsOf, IsViewText, json_body, svg_body}
use Rattle.ml_http.specs.declared.kind.Kind.{Kind}
use Rattle.ml_http.specs.declared.kind.Kind.TheVariants.{Json, Svg, GeoJson}
use Rattle.ml_request.specs.declared.request.Event.{Event}
use Rattle.ml_request.specs.declared.request.Event.TheVariants.{Whole, Refused}
use Rattle.ml_http.specs.declared.route.Route.{Route}
use Rattle.ml_http.specs.declared.route.Route.TheVariants as routes
use Rattle.ml_http.specs.declared.route.ReadRoute.{ReadRoute}
use Rattle.ml_http.specs.declared.route.ReadRoute.TheVariants as reads
use Rattle.ml_http.specs.declared.route.EditRoute.{EditRoute}
use Rattle.ml_http.specs.declared.route.EditRoute.TheVariants as edits
use Rattle.ml_http.specs.declared.route.NoRoute.{NoRoute}
use Rattle.ml_request.specs.Request.{RequestParts}
use Rattle.ml_http.specs.Reply.{reply_text}
use Rattle.ml_http.specs.Replies.{json_reply, refusal_reply, no_route_reply, query_reply, fault_code, fault_reply}
use Rattle.ml_http.specs.StateReply.{IsStateReply}
use Rattle.ml_http.specs.TileWork.{TileWork, Untouched, Asked, Changed, Remade}
use Rattle.ml_http.specs.Routes.{path_of, query_of, route_of, query_pairs, named, IsViewAsked, IsTileAsked, revision_in, id_in}

-- all that comes of one event: the reply, the changes that the watchers are told, how many labels were evaluated, and what it is for the tiles that are held
pub record LinkAnswer : Type 0 where
  pub reply : List ℕ
  pub changes : List Change
  pub cost : ℕ
  pub work : TileWork

-- an answer that is a reply alone
abbrev pub plain : List ℕ → LinkAnswer
plain reply = record { reply = reply; changes = []; cost = 0; work = Untouched }

-- an answer that is the body of a tile
abbrev pub tiled : List ℕ → HeldTile → LinkAnswer
tiled reply tile = record { reply = reply; changes = []; cost = 0; work = Asked tile }

-- a query: its names and values, in order
abbrev pub Query : Type 0
Query = List (List ℕ × List ℕ)

-- the names of a view's query, in their order
abbrev pub view_name : ℕ → List ℕ
view_name zero = codes "cx"
view_name (suc zero) = codes "cy"
view_name (suc (suc zero)) = codes "w"
view_name (suc (suc (suc zero))) = codes "h"
view_name (suc (suc (suc (suc n)))) = codes "s"

-- the reply for the view that was asked for, or where the query asks for none
abbrev pub IsReplyFor : (View → List Row → List ℕ) → Kind → State → Bool → Result View ℕ → List ℕ → Type 0
IsReplyFor body kind s closes (Err place) reply = reply ≡ query_reply closes (view_name place)
IsReplyFor body kind s closes (Ok view) reply = (text : List ℕ) × IsViewText body s view text × (reply ≡ reply_text 200 kind None closes text)

-- a view
abbrev pub IsViewReply : (View → List Row → List ℕ) → Kind → State → Bool → Query → List ℕ → Type 0
IsViewReply body kind s closes query reply = (asked : Result View ℕ) × IsViewAsked query asked × IsReplyFor body kind s closes asked reply

-- the id of the label with the number, if there is a number
abbrev pub IsIdOf : List Row → Option ℕ → Option (List ℕ) → Type 0
IsIdOf rows None id = id ≡ None
IsIdOf rows (Some number) id = (row : Row) × Contains rows row × (row.number ≡ number) × (id ≡ Some row.label.order.id)

-- the slot of the label with the id: its range, its end, and the id of its blocker
abbrev pub IsSlotText : State → List ℕ → List ℕ → Type 0
IsSlotText s id text =
    (rows : List Row) × AreRowsOf s rows × ((row : Row) × Contains rows row × (row.label.order.id ≡ id)
    × ((blocker : Option (List ℕ)) × IsIdOf rows row.slot.blocker blocker × (text ≡ slot_text row.label row.slot.until blocker)))

-- how a feature stands: no feature has the id; or it has no label, for this reason; or it has one, with this slot
abbrev pub IsStandingReply : State → Bool → List ℕ → Option Standing → List ℕ → Type 0
IsStandingReply s closes id None reply = ¬ (HasFeature s.features id) × (reply ≡ json_reply 404 closes (fault_text (faults.Unknown id)))
IsStandingReply s closes id (Some (Unlabelled reason)) reply =
    (f : Feature) × Contains s.features f × (f.id ≡ id) × IsLabelling s.style f (Err reason) × (reply ≡ json_reply 200 closes (reason_text id reason))
IsStandingReply s closes id (Some (Labelled number)) reply = (text : List ℕ) × IsSlotText s id text × (reply ≡ json_reply 200 closes text)

-- what is told of a feature
abbrev pub IsWhyReply : State → Bool → Query → List ℕ → Type 0
IsWhyReply s closes query reply =
    MatchOption (id_in query) (reply ≡ query_reply closes (codes "id")) (λ id. (standing : Option Standing) × IsStandingReply s closes id standing reply)

-- the revision, with the numbers of features and labels
abbrev pub IsRevReply : State → Bool → List ℕ → Type 0
IsRevReply s closes reply = (rows : List Row) × AreRowsOf s rows × (reply ≡ json_reply 200 closes (rev_text s.rev (length s.features) (length rows)))

-- the reply to a request that changes nothing
abbrev pub IsRead : ReadRoute → State → Bool → Query → List ℕ → Type 0
IsRead reads.View s closes query reply = IsViewReply json_body Json s closes query reply
IsRead reads.Svg s closes query reply = IsViewReply svg_body Svg s closes query reply
IsRead reads.Why s closes query reply = IsWhyReply s closes query reply
IsRead reads.Map s closes query reply = reply ≡ reply_text 200 GeoJson None closes (collection_text s.features)
IsRead reads.Rev s closes query reply = IsRevReply s closes reply
IsRead reads.State s closes query reply = IsStateReply s closes reply

-- nothing changes, and the answer is this reply alone
pub record Stays (s : State) (reply : List ℕ) (answer : LinkAnswer) (t : State) : Type 0 where
  pub state : t ≡ s
  pub is : answer ≡ plain reply

-- the text is the body of the tile: its view as JSON
abbrev pub IsTileText : State → TileKey → List ℕ → Type 0
IsTileText s key text = (view : View) × IsTileView key.z key.i key.j view × IsViewText json_body s view text

-- the names of a tile's query, in their order
abbrev pub tile_name : ℕ → List ℕ
tile_name zero = codes "z"
tile_name (suc zero) = codes "i"
tile_name (suc (suc n)) = codes "j"

-- the answer for the tile that was asked for, or where the query asks for none
abbrev pub IsTileFor : State → Bool → Result TileKey ℕ → LinkAnswer → State → Type 0
IsTileFor s closes (Err place) answer t = Stays s (query_reply closes (tile_name place)) answer t
IsTileFor s closes (Ok key) answer t = (text : List ℕ) × IsTileText s key text × (t ≡ s) × (answer ≡ tiled (json_reply 200 closes text) (key, text))

-- the answer to a request for a tile
abbrev pub IsTileAnswer : State → Bool → Query → LinkAnswer → State → Type 0
IsTileAnswer s closes query answer t = (asked : Result TileKey ℕ) × IsTileAsked query asked × IsTileFor s closes asked answer t

-- an edit changes labels where it has a feature of its own; a new style makes them all anew
abbrev pub work_of : Edit → List Row → List Row → TileWork
work_of edit before after = unwrap_or (option_map (λ id. Changed before after) (id_of edit)) Remade

-- the edit is carried out: the changes are told, and its reply tells them
pub record IsCarriedOut (s : State) (closes : Bool) (edit : Edit) (answer : LinkAnswer) (t : State) : Type 0 where
  pub state : t ≡ step s edit
  pub before : List Row
  pub after : List Row
  pub rows_before : AreRowsOf s before
  pub rows_after : AreRowsOf t after
  pub changes : AreChanges (labels_in before) (slots_in before) (labels_in after) (slots_in after) answer.changes
  pub cost : IsEditCost edit (labels_in before) (labels_in after) answer.cost
  pub reply : answer.reply ≡ json_reply 200 closes (edit_text t.rev answer.changes)
  pub work : answer.work ≡ work_of edit before after

-- the edit is refused: nothing changes, and the reply tells why
abbrev pub IsTurnedDown : State → Bool → EditFault → LinkAnswer → State → Type 0
IsTurnedDown s closes fault answer t = (code : ℕ) × (fault_code fault ≡ Some code) × Stays s (fault_reply closes code fault) answer t

-- the rules refuse what is asked, or they accept it and the edit is carried out
abbrev pub IsEditAnswered : State → Option ℕ → Wish → Bool → LinkAnswer → State → Type 0
IsEditAnswered s rev wish closes answer t =
    ((fault : EditFault) × IsFault s rev wish fault × IsTurnedDown s closes fault answer t) ⊎ ((edit : Edit) × IsGranted s rev wish edit × IsCarriedOut s closes edit answer t)

-- what is asked, for the revision that the query gives, if it gives one
abbrev pub ForRevision : Wish → State → Bool → Query → LinkAnswer → State → Type 0
ForRevision wish s closes query answer t =
    MatchOption (revision_in (named (codes "rev") query)) (Stays s (query_reply closes (codes "rev")) answer t) (λ rev. IsEditAnswered s rev wish closes answer t)

-- what a request for an edit asks: an edit by its body, or the removal of the id that the query gives
abbrev pub wish_in : EditRoute → Query → List ℕ → Option Wish
wish_in edits.Add query body = Some (adds body)
wish_in edits.Replace query body = Some (replaces body)
wish_in edits.Remove query body = option_map removes (id_in query)
wish_in edits.Restyle query body = Some (restyles body)

-- the answer to a request for an edit
abbrev pub IsEditReply : EditRoute → State → Bool → Query → List ℕ → LinkAnswer → State → Type 0
IsEditReply route s closes query body answer t =
    MatchOption (wish_in route query body) (Stays s (query_reply closes (codes "id")) answer t) (λ wish. ForRevision wish s closes query answer t)

-- the answer to a request that asks for this
abbrev pub IsRouted : Result Route NoRoute → State → RequestParts → LinkAnswer → State → Type 0
IsRouted (Err none) s request answer t = Stays s (no_route_reply request.closes none) answer t
IsRouted (Ok (routes.Read route)) s request answer t =
    (reply : List ℕ) × IsRead route s request.closes (query_pairs (query_of request.target)) reply × Stays s reply answer t
IsRouted (Ok routes.Tile) s request answer t = IsTileAnswer s request.closes (query_pairs (query_of request.target)) answer t
IsRouted (Ok (routes.Edit route)) s request answer t = IsEditReply route s request.closes (query_pairs (query_of request.target)) request.body answer t

-- one step of the machine: an event is answered, and the map is in another state or in the same
abbrev pub MapStep : State → Event → LinkAnswer → State → Type 0
MapStep s (Refused refusal) answer t = Stays s (refusal_reply refusal) answer t
MapStep s (Whole request) answer t = IsRouted (route_of request.method (path_of request.target)) s request answer t
