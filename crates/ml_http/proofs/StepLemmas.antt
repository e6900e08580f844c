-- Replies that follow the rules of the machine.
use Rattle.std.proofs.Common.{◌≡◌, ◌≢◌, ℕ, ◌+◌, Bool, List, [], codes, refl, sym, ap, ◌∙◌, subst, arith, inl, inr, Option, Some, None, Result, Ok, Err}
use Rattle.std.specs.Prelude.{MatchOption}
use Rattle.ml_watch.specs.Hearing.{Hearing, AllHear}
use Rattle.ml_editor.specs.State.{State}
use Rattle.ml_editor.specs.Faults.{Wish, IsFault, IsGranted}
use Rattle.ml_editor.specs.declared.edit.Edit.{Edit}
use Rattle.ml_editor.specs.declared.fault.EditFault.{EditFault}
use Rattle.ml_editor.specs.declared.fault.EditFault.TheVariants as faults
use Rattle.ml_http.specs.declared.route.Route.{Route}
use Rattle.ml_http.specs.declared.route.Route.TheVariants as routes
use Rattle.ml_http.specs.declared.route.ReadRoute.{ReadRoute}
use Rattle.ml_http.specs.declared.route.EditRoute.{EditRoute}
use Rattle.ml_http.specs.declared.route.NoRoute.{NoRoute}
use Rattle.ml_request.specs.Request.{RequestParts}
use Rattle.ml_http.specs.Routes.{query_of, query_pairs, IsTileAsked, named, revision_in}
use Rattle.ml_request.specs.declared.request.Event.{Event}
use Rattle.ml_request.specs.declared.request.Event.TheVariants.{Refused}
use Rattle.ml_request.specs.declared.request.Refusal.{Refusal}
use Rattle.ml_http.specs.Replies.{json_reply, refusal_reply, no_route_reply, query_reply, fault_code, fault_reply}
use Rattle.ml_http.specs.Step.{LinkAnswer, Query, plain, tiled, tile_name, Stays, IsRead, wish_in, IsEditReply, IsEditAnswered, IsCarriedOut, ForRevision, IsRouted, MapStep}
use Rattle.ml_http.specs.TileWork.{IsDoneTo}
use Rattle.ml_tile.specs.Cache.{Cache}
use Rattle.ml_tile.specs.declared.key.TileKey.{TileKey}
use Rattle.ml_http.specs.TileReply.{IsTileReply}
use Rattle.ml_http.specs.Link.{LinkState, LinkIdles, IsAnswered, IsAccepted}
use Rattle.ml_http.proofs.LinkLemmas.{idles}

stays : (s : State) (reply other : List ℕ) → reply ≡ other → Stays s other (plain reply) s
stays s reply other same = record { state = refl; is = ap plain same }

-- what is refused before the target is looked at
pub refused_step : (s : State) (event : Event) (refusal : Refusal) (reply : List ℕ) → event ≡ Refused refusal → reply ≡ refusal_reply refusal → MapStep s event (plain reply) s
refused_step s event refusal reply is text = subst (λ e. MapStep s e (plain reply) s) (sym is) (stays s reply (refusal_reply refusal) text)

-- a fault that has a status is not the lack of memory
not_memory : (fault : EditFault) (code : ℕ) → fault_code fault ≡ Some code → fault ≢ faults.Memory
not_memory fault code status is =
    let none : fault_code faults.Memory ≡ Some code = subst (λ f. fault_code f ≡ Some code) is status in
    cc

-- replies that change nothing
module _ {W : Type 0} (hearing : W → Hearing) (nothing : (ws : List W) → AllHear hearing [] ws ws) where
  -- a reply that follows a rule, while nothing changes and no step is spent, is an answer by the rule
  pub answered_plain : (rule : State → LinkAnswer → State → Type 0) (old new : LinkState W) (reply : List ℕ) → LinkIdles old new →
      new.spent ≡ old.spent → rule old.map_state (plain reply) new.map_state → IsAnswered hearing rule old new reply
  answered_plain rule old new reply idle same by = (
    plain reply,
    record {
      by_rule = by;
      hears = subst (λ ws. AllHear hearing [] old.crowd ws) (sym idle.crowd) (nothing old.crowd);
      done = idle.tiles;
      spent = omega (arith, same);
    },
    refl,
  )

  -- what nobody can ask for
  pub no_route_answered : (request : RequestParts) (routed : Result Route NoRoute) (none : NoRoute) (said : Bool) (old : LinkState W) (reply : List ℕ) →
      Err none ≡ routed → said ≡ request.closes → reply ≡ no_route_reply said none → IsAnswered hearing (λ s a t. IsRouted routed s request a t) old old reply
  no_route_answered request routed none said old reply is says text =
      answered_plain (λ s a t. IsRouted routed s request a t) old old reply (idles old) refl
      (subst (λ r. IsRouted r old.map_state request (plain reply) old.map_state) is (stays old.map_state reply (no_route_reply request.closes none) (text ∙ ap (λ b. no_route_reply b none) says)))

  -- what is read
  pub read_answered : (request : RequestParts) (routed : Result Route NoRoute) (route : ReadRoute) (said : Bool) (given : Query) (old : LinkState W) (reply : List ℕ) →
      Ok (routes.Read route) ≡ routed → said ≡ request.closes → given ≡ query_pairs (query_of request.target) →
      IsRead route old.map_state said given reply → IsAnswered hearing (λ s a t. IsRouted routed s request a t) old old reply
  read_answered request routed route said given old reply is says gives read =
      let s = old.map_state in
      answered_plain (λ s a t. IsRouted routed s request a t) old old reply (idles old) refl
      (subst (λ r. IsRouted r s request (plain reply) s) is
      (reply, subst (λ q. IsRead route s request.closes q reply) gives (subst (λ b. IsRead route s b given reply) says read), stays s reply reply refl))

  -- a tile
  pub tile_answered : (request : RequestParts) (routed : Result Route NoRoute) (said : Bool) (given : Query) (asked : Result TileKey ℕ) (old : LinkState W) (tiles : Cache) (reply : List ℕ) →
      Ok routes.Tile ≡ routed → said ≡ request.closes → given ≡ query_pairs (query_of request.target) → IsTileAsked given asked → IsTileReply old.map_state said asked old.tiles tiles reply →
      IsAnswered hearing (λ s a t. IsRouted routed s request a t) old (record old { tiles = tiles }) reply
  tile_answered request routed said given (Err place) old tiles reply is says gives asks (text, same) =
      let s = old.map_state in
      answered_plain (λ s a t. IsRouted routed s request a t) old (record old { tiles = tiles }) reply (record { map_state = refl; crowd = refl; tiles = same }) refl
      (subst (λ r. IsRouted r s request (plain reply) s) is
      (Err place, subst (λ q. IsTileAsked q (Err place)) gives asks, stays s reply (query_reply request.closes (tile_name place)) (text ∙ ap (λ b. query_reply b (tile_name place)) says)))
  tile_answered request routed said given (Ok key) old tiles reply is says gives asks (text, right, made, done) = (
    tiled (json_reply 200 request.closes text) (key, text),
    record {
      by_rule = subst (λ r. IsRouted r old.map_state request (tiled (json_reply 200 request.closes text) (key, text)) old.map_state) is
          (Ok key, subst (λ q. IsTileAsked q (Ok key)) gives asks, (text, right, refl, refl));
      hears = nothing old.crowd;
      done = done;
      spent = omega arith;
    },
    ap (λ b. json_reply 200 b text) (sym says) ∙ sym made,
  )

-- ---- edits

module _ {W : Type 0} (hearing : W → Hearing) where
  -- the edit was accepted, and the steps for it were spent before
  carried_out : (rev : Option ℕ) (wish : Wish) (closes : Bool) (edit : Edit) (cost : ℕ) (old mid new : LinkState W) (reply : List ℕ) →
      IsGranted old.map_state rev wish edit → LinkIdles old mid → mid.spent ≡ old.spent + cost → IsAccepted hearing closes edit cost mid new reply →
      IsAnswered hearing (λ s a t. IsEditAnswered s rev wish closes a t) old new reply
  carried_out rev wish closes edit cost old mid new reply granted idle paid done = (
    done.answer,
    record {
      by_rule = inr (edit, granted, subst (λ s. IsCarriedOut s closes edit done.answer new.map_state) idle.map_state done.carried);
      hears = subst (λ ws. AllHear hearing done.answer.changes ws new.crowd) idle.crowd done.hears;
      done = subst (λ c. IsDoneTo done.answer.work done.answer.changes c new.tiles) idle.tiles done.done;
      spent = omega (arith, paid, done.spent, done.costs);
    },
    done.is,
  )

  module _ (route : EditRoute) (query : Query) (body : List ℕ) (closes : Bool) where
    -- the request asks for an edit
    by_wish : (wish : Wish) (old new : LinkState W) (reply : List ℕ) → Some wish ≡ wish_in route query body →
        IsAnswered hearing (λ s a t. ForRevision wish s closes query a t) old new reply → IsAnswered hearing (λ s a t. IsEditReply route s closes query body a t) old new reply
    by_wish wish old new reply is = subst (λ o. IsAnswered hearing (λ s a t. MatchOption o (Stays s (query_reply closes (codes "id")) a t) (λ k. ForRevision k s closes query a t)) old new reply) is

    -- the query gives a revision for it
    by_revision : (wish : Wish) (rev : Option ℕ) (old new : LinkState W) (reply : List ℕ) → Some wish ≡ wish_in route query body → Some rev ≡ revision_in (named (codes "rev") query) →
        IsAnswered hearing (λ s a t. IsEditAnswered s rev wish closes a t) old new reply → IsAnswered hearing (λ s a t. IsEditReply route s closes query body a t) old new reply
    by_revision wish rev old new reply asks is follows =
        by_wish wish old new reply asks
        (subst (λ o. IsAnswered hearing (λ s a t. MatchOption o (Stays s (query_reply closes (codes "rev")) a t) (λ r. IsEditAnswered s r wish closes a t)) old new reply) is follows)

    -- the edit was granted and carried out, and the steps for it were spent before
    pub accepted : (wish : Wish) (rev : Option ℕ) (said : Bool) (edit : Edit) (cost : ℕ) (old mid new : LinkState W) (reply : List ℕ) →
        said ≡ closes → Some wish ≡ wish_in route query body → Some rev ≡ revision_in (named (codes "rev") query) →
        IsGranted old.map_state rev wish edit → LinkIdles old mid → mid.spent ≡ old.spent + cost → IsAccepted hearing said edit cost mid new reply →
        IsAnswered hearing (λ s a t. IsEditReply route s closes query body a t) old new reply
    accepted wish rev said edit cost old mid new reply says asks is granted idle paid done =
        by_revision wish rev old new reply asks is
        (carried_out rev wish closes edit cost old mid new reply granted idle paid (subst (λ b. IsAccepted hearing b edit cost mid new reply) says done))

-- edits that change nothing
module _ {W : Type 0} (hearing : W → Hearing) (nothing : (ws : List W) → AllHear hearing [] ws ws) (route : EditRoute) (query : Query) (body : List ℕ) (closes : Bool) where
  -- the request gives no id that it needs
  pub unasked : (said : Bool) (old : LinkState W) (reply : List ℕ) → said ≡ closes → None ≡ wish_in route query body → reply ≡ query_reply said (codes "id") →
      IsAnswered hearing (λ s a t. IsEditReply route s closes query body a t) old old reply
  unasked said old reply says is text =
      let s = old.map_state in
      answered_plain hearing nothing (λ s a t. IsEditReply route s closes query body a t) old old reply (idles old) refl
      (subst (λ o. MatchOption o (Stays s (query_reply closes (codes "id")) (plain reply) s) (λ wish. ForRevision wish s closes query (plain reply) s)) is
      (stays s reply (query_reply closes (codes "id")) (text ∙ ap (λ b. query_reply b (codes "id")) says)))

  -- the query gives no revision
  pub no_revision : (wish : Wish) (said : Bool) (old : LinkState W) (reply : List ℕ) →
      said ≡ closes → Some wish ≡ wish_in route query body → None ≡ revision_in (named (codes "rev") query) → reply ≡ query_reply said (codes "rev") →
      IsAnswered hearing (λ s a t. IsEditReply route s closes query body a t) old old reply
  no_revision wish said old reply says asks is text =
      let s = old.map_state in
      by_wish hearing route query body closes wish old old reply asks
      (answered_plain hearing nothing (λ s a t. ForRevision wish s closes query a t) old old reply (idles old) refl
      (subst (λ o. MatchOption o (Stays s (query_reply closes (codes "rev")) (plain reply) s) (λ r. IsEditAnswered s r wish closes (plain reply) s)) is
      (stays s reply (query_reply closes (codes "rev")) (text ∙ ap (λ b. query_reply b (codes "rev")) says))))

  -- the edit was refused
  pub turned_down : (wish : Wish) (rev : Option ℕ) (said : Bool) (fault : EditFault) (code : ℕ) (old new : LinkState W) (reply : List ℕ) →
      said ≡ closes → Some wish ≡ wish_in route query body → Some rev ≡ revision_in (named (codes "rev") query) →
      LinkIdles old new → (fault ≢ faults.Memory → new.spent ≡ old.spent) → (fault ≢ faults.Memory → IsFault old.map_state rev wish fault) →
      fault_code fault ≡ Some code → reply ≡ fault_reply said code fault →
      IsAnswered hearing (λ s a t. IsEditReply route s closes query body a t) old new reply
  turned_down wish rev said fault code old new reply says asks is idle free refused status text =
      let some = not_memory fault code status in
      by_revision hearing route query body closes wish rev old new reply asks is
      (answered_plain hearing nothing (λ s a t. IsEditAnswered s rev wish closes a t) old new reply idle (free some)
      (inl (fault, refused some, (code, status, record { state = idle.map_state; is = ap plain (text ∙ ap (λ b. fault_reply b code fault) says) }))))
