-- An event that is answered in a state has one reply, one list of changes and one cost, and leaves one state.
use Rattle.std.proofs.Common.{◌≡◌, ℕ, Bool, List, [], Option, Some, None, Result, Ok, Err, inl, inr, refl, sym, ap, subst, ◌∙◌}
use Rattle.std.specs.Prelude.{MatchOption, codes}
use Rattle.std.proofs.lemmas.Option.{same_Some}
use Rattle.ml_cone.specs.Label.{IsLabelList}
use Rattle.ml_cone.specs.declared.label.Label.{Label}
use Rattle.ml_cone.specs.declared.slot.Slot.{Slot}
use Rattle.ml_store.specs.Rows.{labels_in, slots_in}
use Rattle.ml_store.specs.declared.row.Row.{Row}
use Rattle.ml_watch.specs.declared.change.Change.{Change}
use Rattle.ml_repair.specs.Changes.{AreChanges}
use Rattle.ml_repair.specs.Cost.{IsCost}
use Rattle.ml_editor.specs.Editing.{id_of}
use Rattle.ml_editor.specs.Faults.{Wish, ExcludeOneAnother, IsFault, IsGranted, AsksFor}
use Rattle.ml_editor.specs.State.{State, IsState}
use Rattle.ml_editor.specs.declared.edit.Edit.{Edit}
use Rattle.ml_answer.specs.Edit.{edit_text}
use Rattle.ml_answer.specs.MapView.{AreRowsOf}
use Rattle.ml_tile.specs.declared.key.TileKey.{TileKey}
use Rattle.ml_http.specs.Once.{AreOneAnswer}
use Rattle.ml_http.specs.Replies.{json_reply, fault_code, fault_reply}
use Rattle.ml_request.specs.Request.{RequestParts}
use Rattle.ml_http.specs.Routes.{path_of, query_of, route_of, query_pairs, named, revision_in}
use Rattle.ml_http.specs.Step.{LinkAnswer, Query, Stays, IsTileFor, IsTileAnswer, IsCarriedOut, IsEditAnswered, wish_in, IsEditReply, IsRouted, MapStep}
use Rattle.ml_request.specs.declared.request.Event.{Event}
use Rattle.ml_request.specs.declared.request.Event.TheVariants.{Whole, Refused}
use Rattle.ml_http.specs.declared.route.EditRoute.{EditRoute}
use Rattle.ml_http.specs.declared.route.NoRoute.{NoRoute}
use Rattle.ml_http.specs.declared.route.Route.{Route}
use Rattle.ml_http.specs.declared.route.Route.TheVariants as routes
use Rattle.ml_http.proofs.OneRead.{labels_again, one_read}
use Rattle.ml_http.proofs.OneTile.{one_reply as one_tile_reply}
use Rattle.ml_http.proofs.lemmas.SameChanges.{SameEnds, changes_moved}
use Rattle.ml_http.proofs.SameReplies.{OneLabel}
use Rattle.ml_http.proofs.SameViews.{KnownChoice, same_untils}

-- what is known of edits: what refuses them, what is asked makes, what they change and cost
pub record KnownEdits : Type 0 where
  pub one_refusal : (s : State) (rev : Option ℕ) (wish : Wish) → ExcludeOneAnother (IsFault s rev wish) (IsGranted s rev wish)
  pub one_edit : (wish : Wish) (one other : Edit) → AsksFor wish one → AsksFor wish other → one ≡ other
  pub one_changes : (labels : List Label) (slots : List Slot) (new_labels : List Label) (new_slots : List Slot) (changes others : List Change) →
      AreChanges labels slots new_labels new_slots changes → AreChanges labels slots new_labels new_slots others → changes ≡ others
  pub one_cost : (before after : List Label) (id : List ℕ) (cost other : ℕ) → IsLabelList before → IsLabelList after → IsCost before after id cost → IsCost before after id other → cost ≡ other

-- nothing changes in either, and the replies are one
stays_once : (s : State) (p q : List ℕ) (a b : LinkAnswer) (t u : State) → p ≡ q → Stays s p a t → Stays s q b u → AreOneAnswer a b t u
stays_once s p q a b t u same one other = record {
  reply = ap (λ (x : LinkAnswer). x.reply) one.is ∙ same ∙ sym (ap (λ (x : LinkAnswer). x.reply) other.is);
  changes = ap (λ (x : LinkAnswer). x.changes) one.is ∙ sym (ap (λ (x : LinkAnswer). x.changes) other.is);
  cost = ap (λ (x : LinkAnswer). x.cost) one.is ∙ sym (ap (λ (x : LinkAnswer). x.cost) other.is);
  state = one.state ∙ sym other.state;
}

-- what a query gives, or the reply where it gives nothing
given_once : {X : Type 0} (s : State) (p : List ℕ) (a b : LinkAnswer) (t u : State) (o : Option X) (P Q : X → Type 0) →
    ((x : X) → P x → Q x → AreOneAnswer a b t u) → MatchOption o (Stays s p a t) P → MatchOption o (Stays s p b u) Q → AreOneAnswer a b t u
given_once s p a b t u None P Q each one other = stays_once s p p a b t u refl one other
given_once s p a b t u (Some x) P Q each one other = each x one other

module _ (one : OneLabel) (choice : KnownChoice) (known : KnownEdits) (s : State) (is_state : IsState s) where
  -- rows of one map have the same labels, which end at the same scales
  same_rows : (z : State) (xs ys : List Row) → AreRowsOf z xs → AreRowsOf z ys → (labels_in xs ≡ labels_in ys) × SameEnds (labels_in ys) (slots_in ys) (slots_in xs)
  same_rows z xs ys first second =
      let labels = labels_again one choice z (labels_in xs) (labels_in ys) first.labels second.labels in
      (labels, λ p within. same_untils choice.longest ys xs second.settled first.settled (sym labels) p within)

  costs_once : (o : Option (List ℕ)) (before after : List Label) (m n : ℕ) → IsLabelList before → IsLabelList after →
      MatchOption o (m ≡ 0) (λ id. IsCost before after id m) → MatchOption o (n ≡ 0) (λ id. IsCost before after id n) → m ≡ n
  costs_once None before after m n first second p q = p ∙ sym q
  costs_once (Some id) before after m n first second p q = known.one_cost before after id m n first second p q

  carried_once : (closes : Bool) (edit : Edit) (a b : LinkAnswer) (t u : State) → IsCarriedOut s closes edit a t → IsCarriedOut s closes edit b u → AreOneAnswer a b t u
  carried_once closes edit a b t u x y =
      let state : t ≡ u = x.state ∙ sym y.state in
      let before = same_rows s x.before y.before x.rows_before y.rows_before in
      let after = same_rows u x.after y.after (subst (λ (z : State). AreRowsOf z x.after) state x.rows_after) y.rows_after in
      let moved = changes_moved (labels_in y.before) (slots_in y.before) (slots_in x.before) (labels_in y.after) (slots_in y.after) (slots_in x.after) before.1 after.1 b.changes y.changes in
      let moved_back = rw (sym before.0, sym after.0) at moved in
      let changes = known.one_changes (labels_in x.before) (slots_in x.before) (labels_in x.after) (slots_in x.after) a.changes b.changes x.changes moved_back in
      let cost_of_y = rw (sym before.0, sym after.0) at y.cost in
      record {
        reply = x.reply ∙ ap (λ (z : State). json_reply 200 closes (edit_text z.rev a.changes)) state ∙ ap (λ (cs : List Change). json_reply 200 closes (edit_text u.rev cs)) changes ∙ sym y.reply;
        changes = changes;
        cost = costs_once (id_of edit) (labels_in x.before) (labels_in x.after) a.cost b.cost x.rows_before.settled.in_order x.rows_after.settled.in_order x.cost cost_of_y;
        state = state;
      }

  edited_once : (closes : Bool) (rev : Option ℕ) (wish : Wish) (a b : LinkAnswer) (t u : State) → IsEditAnswered s rev wish closes a t → IsEditAnswered s rev wish closes b u → AreOneAnswer a b t u
  edited_once closes rev wish a b t u (inl x) (inl y) =
      let fault = (known.one_refusal s rev wish).one x.0 y.0 x.1 y.1 in
      let code : x.2.0 ≡ y.2.0 = same_Some x.2.0 y.2.0 (sym x.2.1 ∙ ap fault_code fault ∙ y.2.1) in
      stays_once s _ _ a b t u (ap (λ (c : ℕ). fault_reply closes c x.0) code ∙ ap (fault_reply closes y.2.0) fault) x.2.2 y.2.2
  edited_once closes rev wish a b t u (inl x) (inr y) = absurd ((known.one_refusal s rev wish).none x.0 y.0 y.1 x.1)
  edited_once closes rev wish a b t u (inr x) (inl y) = absurd ((known.one_refusal s rev wish).none y.0 x.0 x.1 y.1)
  edited_once closes rev wish a b t u (inr x) (inr y) =
      let edit = known.one_edit wish x.0 y.0 x.1.asked y.1.asked in
      carried_once closes y.0 a b t u (subst (λ (e : Edit). IsCarriedOut s closes e a t) edit x.2) y.2

  route_once : (route : EditRoute) (closes : Bool) (query : Query) (body : List ℕ) (a b : LinkAnswer) (t u : State) →
      IsEditReply route s closes query body a t → IsEditReply route s closes query body b u → AreOneAnswer a b t u
  route_once route closes query body a b t u x y =
      given_once s _ a b t u (wish_in route query body) _ _
      (λ wish v w. given_once s _ a b t u (revision_in (named (codes "rev") query)) _ _ (λ rev p q. edited_once closes rev wish a b t u p q) v w) x y

  -- a tile: nothing changes
  tile_stays : (closes : Bool) (asked : Result TileKey ℕ) (a : LinkAnswer) (t : State) → IsTileFor s closes asked a t → (t ≡ s) × (a.changes ≡ []) × (a.cost ≡ 0)
  tile_stays closes (Err place) a t is = (is.state, ap (λ (x : LinkAnswer). x.changes) is.is, ap (λ (x : LinkAnswer). x.cost) is.is)
  tile_stays closes (Ok key) a t is = (is.2, ap (λ (x : LinkAnswer). x.changes) is.3, ap (λ (x : LinkAnswer). x.cost) is.3)

  tile_once : (closes : Bool) (query : Query) (a b : LinkAnswer) (t u : State) → IsTileAnswer s closes query a t → IsTileAnswer s closes query b u → AreOneAnswer a b t u
  tile_once closes query a b t u x y =
      let first = tile_stays closes x.0 a t x.2 in
      let second = tile_stays closes y.0 b u y.2 in
      record {
        reply = one_tile_reply one choice.longest s s closes query a b t u (record { style = refl; features = λ f. (λ h. h, λ h. h) }) x y;
        changes = first.1 ∙ sym second.1;
        cost = first.2 ∙ sym second.2;
        state = first.0 ∙ sym second.0;
      }

  routed_once : (asked : Result Route NoRoute) (request : RequestParts) (a b : LinkAnswer) (t u : State) → IsRouted asked s request a t → IsRouted asked s request b u → AreOneAnswer a b t u
  routed_once (Err none) request a b t u x y = stays_once s _ _ a b t u refl x y
  routed_once (Ok (routes.Read route)) request a b t u x y =
      stays_once s x.0 y.0 a b t u (one_read one choice s is_state route request.closes (query_pairs (query_of request.target)) x.0 y.0 x.1 y.1) x.2 y.2
  routed_once (Ok routes.Tile) request a b t u x y = tile_once request.closes (query_pairs (query_of request.target)) a b t u x y
  routed_once (Ok (routes.Edit route)) request a b t u x y = route_once route request.closes (query_pairs (query_of request.target)) request.body a b t u x y

  -- two answers to one event in one state that can be reached are one answer, and leave one state
  pub one_reply : (event : Event) (a b : LinkAnswer) (t u : State) → MapStep s event a t → MapStep s event b u → AreOneAnswer a b t u
  one_reply (Refused refusal) a b t u x y = stays_once s _ _ a b t u refl x y
  one_reply (Whole request) a b t u x y = routed_once (route_of request.method (path_of request.target)) request a b t u x y
