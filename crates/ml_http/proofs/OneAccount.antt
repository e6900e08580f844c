-- What a connection answers, writes and leaves is one, and what it got of it is a beginning.
use Rattle.std.proofs.Common.{◌≡◌, ℕ, ◌≤◌, ◌<◌, Bool, List, [], ◌∷◌, ◌++◌, ◌+◌, length, map, flat_map, Option, Some, None, Result, Ok, Err, inl, inr, refl, sym, ap, subst, ◌∙◌, arith}
use Rattle.std.specs.Prelude.{MatchOption, codes, fold, sum_by, ◌⊎◌}
use Rattle.std.proofs.lemmas.List.{append-nil, length-append}
use Rattle.ml_io.specs.Calls.{Put, Taken}
use Rattle.ml_io.specs.Causes.{Appends, IsCut}
use Rattle.ml_io.specs.Takes.{Draws}
use Rattle.ml_watch.specs.declared.change.Change.{Change}
use Rattle.ml_watch.specs.Hearing.{Hearing}
use Rattle.ml_editor.specs.Faults.{Wish, IsGranted}
use Rattle.ml_editor.specs.State.{State, IsState, step}
use Rattle.ml_editor.specs.declared.edit.Edit.{Edit}
use Rattle.ml_http.specs.Connection.{IsLeft, brought, memory_reply}
use Rattle.ml_http.specs.Link.{LinkState, LinkStep, LinkIdles, IsLinkServed, most_requests}
use Rattle.ml_http.specs.Once.{Account, AreAccounts, AreLikeStates, AreOneAnswer, EndsWell}
use Rattle.ml_http.specs.Owed.{AreReplies, BeginWith, IsBeginning}
use Rattle.ml_request.specs.Request.{RequestParts}
use Rattle.ml_http.specs.Routes.{path_of, query_of, route_of, query_pairs, named, revision_in}
use Rattle.ml_http.specs.Run.{Run}
use Rattle.ml_http.specs.Step.{LinkAnswer, Query, Stays, IsTileFor, IsEditAnswered, wish_in, IsEditReply, IsRouted, MapStep}
use Rattle.ml_request.specs.Stream.{AreEvents, AreFirstEvents}
use Rattle.ml_http.specs.declared.connection_end.ConnEnd.{ConnEnd}
use Rattle.ml_http.specs.declared.connection_end.ConnEnd.TheVariants.{Shut, Starved, Closed, ReadFault, WriteFault}
use Rattle.ml_request.specs.declared.request.Event.{Event}
use Rattle.ml_request.specs.declared.request.Event.TheVariants.{Whole, Refused}
use Rattle.ml_http.specs.declared.route.EditRoute.{EditRoute}
use Rattle.ml_http.specs.declared.route.NoRoute.{NoRoute}
use Rattle.ml_http.specs.declared.route.Route.{Route}
use Rattle.ml_http.specs.declared.route.Route.TheVariants as routes
use Rattle.ml_tile.specs.declared.key.TileKey.{TileKey}
use Rattle.ml_request.proofs.lemmas.Streams.{events_of_prefix, events_of_first}

-- what the rules accept leads to a state that can be reached
abbrev pub Reaches : Type 0
Reaches = (s : State) (rev : Option ℕ) (wish : Wish) (edit : Edit) → IsState s → IsGranted s rev wish edit → IsState (step s edit)

module _ (reaches : Reaches) (s : State) (is : IsState s) where
  stays_state : (reply : List ℕ) (a : LinkAnswer) (t : State) → Stays s reply a t → IsState t
  stays_state reply a t x = subst IsState (sym x.state) is

  edited_state : (closes : Bool) (rev : Option ℕ) (wish : Wish) (a : LinkAnswer) (t : State) → IsEditAnswered s rev wish closes a t → IsState t
  edited_state closes rev wish a t (inl x) = stays_state _ a t x.2.2
  edited_state closes rev wish a t (inr x) = subst IsState (sym x.2.state) (reaches s rev wish x.0 is x.1)

  given_state : {X : Type 0} (p : List ℕ) (a : LinkAnswer) (t : State) (o : Option X) (P : X → Type 0) → ((x : X) → P x → IsState t) → MatchOption o (Stays s p a t) P → IsState t
  given_state p a t None P each x = stays_state p a t x
  given_state p a t (Some y) P each x = each y x

  route_state : (route : EditRoute) (closes : Bool) (query : Query) (body : List ℕ) (a : LinkAnswer) (t : State) → IsEditReply route s closes query body a t → IsState t
  route_state route closes query body a t x =
      given_state _ a t (wish_in route query body) _ (λ wish v. given_state _ a t (revision_in (named (codes "rev") query)) _ (λ rev p. edited_state closes rev wish a t p) v) x

  tile_state : (closes : Bool) (asked : Result TileKey ℕ) (a : LinkAnswer) (t : State) → IsTileFor s closes asked a t → IsState t
  tile_state closes (Err place) a t x = stays_state _ a t x
  tile_state closes (Ok key) a t x = subst IsState (sym x.2) is

  routed_state : (asked : Result Route NoRoute) (request : RequestParts) (a : LinkAnswer) (t : State) → IsRouted asked s request a t → IsState t
  routed_state (Err none) request a t x = stays_state _ a t x
  routed_state (Ok (routes.Read route)) request a t x = stays_state x.0 a t x.2
  routed_state (Ok routes.Tile) request a t x = tile_state request.closes x.0 a t x.2
  routed_state (Ok (routes.Edit route)) request a t x = route_state route request.closes (query_pairs (query_of request.target)) request.body a t x

  -- each answer leaves a state that can be reached
  pub next_state : (event : Event) (a : LinkAnswer) (t : State) → MapStep s event a t → IsState t
  next_state (Refused refusal) a t x = stays_state _ a t x
  next_state (Whole request) a t x = routed_state (route_of request.method (path_of request.target)) request a t x

-- that two answers to one event of one state are one
abbrev pub OneReply : Type 0
OneReply = (s : State) (event : Event) (one other : LinkAnswer) (t u : State) → IsState s → MapStep s event one t → MapStep s event other u → AreOneAnswer one other t u

-- the replies of answers, the changes that they tell, and what they cost
abbrev pub replies : List LinkAnswer → List (List ℕ)
replies answers = map (λ (a : LinkAnswer). a.reply) answers

-- all changes that the answers tell, one answer after another
abbrev pub changes : List LinkAnswer → List Change
changes answers = flat_map (λ (a : LinkAnswer). a.changes) answers

-- how many labels were evaluated for all answers together
abbrev pub costs : List LinkAnswer → ℕ
costs answers = sum_by (λ (a : LinkAnswer). a.cost) answers

-- the same, behind what was spent before
abbrev cost_after : ℕ → List LinkAnswer → ℕ
cost_after n answers = fold (λ (m : ℕ) (a : LinkAnswer). m + a.cost) n answers

-- the replies of all answers as one text
abbrev pub written_of : List LinkAnswer → List ℕ
written_of answers = flat_map (λ (a : LinkAnswer). a.reply) answers

-- texts as one, one after another
abbrev pub joined : List (List ℕ) → List ℕ
joined texts = flat_map (λ (text : List ℕ). text) texts

joined_replies : (answers : List LinkAnswer) → joined (replies answers) ≡ written_of answers
joined_replies [] = refl
joined_replies (a ∷ answers) = ap (λ (r : List ℕ). a.reply ++ r) (joined_replies answers)

-- a run over all that is lent is one of the map
map_run : {W : Type 0} (hearing : W → Hearing) (events : List Event) (u p : LinkState W) (xs : List LinkAnswer) → Run (LinkStep hearing) u events xs p → Run MapStep u.map_state events xs p.map_state
map_run {W} hearing [] u p [] x = ap (λ (s : LinkState W). s.map_state) x
map_run hearing [] u p (a ∷ xs) x = absurd x
map_run hearing (event ∷ events) u p [] x = absurd x
map_run hearing (event ∷ events) u p (a ∷ xs) x = (x.0.map_state, x.1.by_rule, map_run hearing events x.0 p xs x.2)

-- two runs are one: alike in replies, changes, costs and the state that they leave
record IsOneRun (xs ys : List LinkAnswer) (p q : State) : Type 0 where
  same_replies : replies xs ≡ replies ys
  same_changes : changes xs ≡ changes ys
  same_costs : (n : ℕ) → cost_after n xs ≡ cost_after n ys
  same_state : p ≡ q

-- runs lead to states that can be reached
module _ (reaches : Reaches) where
  run_state : (events : List Event) (s p : State) (xs : List LinkAnswer) → IsState s → Run MapStep s events xs p → IsState p
  run_state [] s p [] is x = subst IsState (sym x) is
  run_state [] s p (a ∷ xs) is x = absurd x
  run_state (event ∷ events) s p [] is x = absurd x
  run_state (event ∷ events) s p (a ∷ xs) is x = run_state events x.0 p xs (next_state reaches s is event a x.0 x.1) x.2

-- runs from one state
module _ (reaches : Reaches) (one : OneReply) where
  -- two runs over the same events are one
  same_run : (events : List Event) (s p q : State) (xs ys : List LinkAnswer) → IsState s → Run MapStep s events xs p → Run MapStep s events ys q → IsOneRun xs ys p q
  same_run [] s p q [] [] is x y = record { same_replies = refl; same_changes = refl; same_costs = λ n. refl; same_state = x ∙ sym y }
  same_run [] s p q [] (b ∷ ys) is x y = absurd y
  same_run [] s p q (a ∷ xs) ys is x y = absurd x
  same_run (event ∷ events) s p q [] ys is x y = absurd x
  same_run (event ∷ events) s p q (a ∷ xs) [] is x y = absurd y
  same_run (event ∷ events) s p q (a ∷ xs) (b ∷ ys) is x y =
      let answers = one s event a b x.0 y.0 is x.1 y.1 in
      let also : Run MapStep x.0 events ys q = subst (λ (m : State). Run MapStep m events ys q) (sym answers.state) y.2 in
      let rest = same_run events x.0 p q xs ys (next_state reaches s is event a x.0 x.1) x.2 also in
      record {
        same_replies = ap (λ (r : List ℕ). r ∷ replies xs) answers.reply ∙ ap (λ (rs : List (List ℕ)). b.reply ∷ rs) rest.same_replies;
        same_changes = ap (λ (cs : List Change). cs ++ changes xs) answers.changes ∙ ap (λ (cs : List Change). b.changes ++ cs) rest.same_changes;
        same_costs = λ n. rest.same_costs (n + a.cost) ∙ ap (λ (m : ℕ). cost_after (n + m) ys) answers.cost;
        same_state = rest.same_state;
      }

  -- a run over more events begins with the same replies
  run_begins : (events others : List Event) (s p q : State) (xs ys : List LinkAnswer) → IsState s →
      Run MapStep s events xs p → Run MapStep s (events ++ others) ys q → BeginWith (replies ys) (replies xs)
  run_begins [] others s p q [] ys is x y = record { rest = replies ys; are = refl }
  run_begins [] others s p q (a ∷ xs) ys is x y = absurd x
  run_begins (event ∷ events) others s p q [] ys is x y = absurd x
  run_begins (event ∷ events) others s p q (a ∷ xs) [] is x y = absurd y
  run_begins (event ∷ events) others s p q (a ∷ xs) (b ∷ ys) is x y =
      let answers = one s event a b x.0 y.0 is x.1 y.1 in
      let also : Run MapStep x.0 (events ++ others) ys q = subst (λ (m : State). Run MapStep m (events ++ others) ys q) (sym answers.state) y.2 in
      let later = run_begins events others x.0 p q xs ys (next_state reaches s is event a x.0 x.1) x.2 also in
      record { rest = later.rest; are = ap (λ (r : List ℕ). r ∷ replies ys) (sym answers.reply) ∙ ap (λ (rs : List (List ℕ)). a.reply ∷ rs) later.are }

none_behind : (xs ys zs ws : List Event) → xs ≡ ys ++ zs → ys ≡ xs ++ ws → xs ≡ ys
none_behind xs ys zs ws e f = behind zs (omega (arith, ap length e, ap length f, length-append ys zs, length-append xs ws)) e
  where
    behind : (vs : List Event) → length vs ≤ 0 → xs ≡ ys ++ vs → xs ≡ ys
    behind [] few is = is ∙ append-nil ys
    behind (v ∷ vs) few is = absurd (omega (arith, few))

-- the events of the bytes are one list
one_list_of_events : (left : ℕ) (bytes : List ℕ) (xs ys : List Event) → AreEvents left bytes xs → AreEvents left bytes ys → xs ≡ ys
one_list_of_events left bytes xs ys p q =
    let first = events_of_prefix left bytes [] xs ys p (rw (append-nil bytes) q) in
    let second = events_of_prefix left bytes [] ys xs q (rw (append-nil bytes) p) in
    none_behind xs ys second.0 first.0 second.1 first.1

appends_once : (written one other : Option (List ℕ)) (a b : List ℕ) → a ≡ b → Appends written one a → Appends written other b → one ≡ other
appends_once None one other a b same p q = p ∙ sym q
appends_once (Some xs) one other a b same p q = p ∙ ap (λ (r : List ℕ). Some (xs ++ r)) same ∙ sym q

-- the map behind a connection is that behind its last answer
left_state : {W : Type 0} (last new : LinkState W) (end : ConnEnd) → IsLeft LinkIdles end last new → new.map_state ≡ last.map_state
left_state {W} last new Closed e = ap (λ (s : LinkState W). s.map_state) e
left_state {W} last new Shut e = ap (λ (s : LinkState W). s.map_state) e
left_state {W} last new ReadFault e = ap (λ (s : LinkState W). s.map_state) e
left_state last new Starved idle = idle.map_state
left_state {W} last new WriteFault (inl e) = ap (λ (s : LinkState W). s.map_state) e
left_state last new WriteFault (inr idle) = idle.map_state

-- the run of a connection, as one of the map
link_run : {W : Type 0} (hearing : W → Hearing) (u p : LinkState W) (input : Taken) (out : Put) (end : ConnEnd) →
    (x : IsLinkServed hearing u p input out end) → Run MapStep u.map_state x.served.exchange.events x.served.exchange.answers p.map_state
link_run hearing u p input out end x =
    subst (λ (t : State). Run MapStep u.map_state x.served.exchange.events x.served.exchange.answers t) (sym (left_state x.served.last p end x.served.leaves))
    (map_run hearing x.served.exchange.events u x.served.last x.served.exchange.answers x.served.run)

-- a connection leaves a state that can be reached
pub link_state : {W : Type 0} (reaches : Reaches) (hearing : W → Hearing) (u p : LinkState W) (input : Taken) (out : Put) (end : ConnEnd) →
    IsState u.map_state → IsLinkServed hearing u p input out end → IsState p.map_state
link_state reaches hearing u p input out end is x =
    run_state reaches x.served.exchange.events u.map_state p.map_state x.served.exchange.answers is (link_run hearing u p input out end x)

-- what a connection that brings these bytes, and ended well, has answered, written and spent
module _ {W : Type 0} (hearing : W → Hearing) (u p : LinkState W) (all : List ℕ) (input : Taken) (out : Put) (brings : input.left ≡ Some all) where
  of_all : (P : List ℕ → Type 0) (taken : List ℕ) → P (brought input.left taken) → P all
  of_all P taken is = subst (λ (told : Option (List ℕ)). P (brought told taken)) brings is

  all_events : (end : ConnEnd) → EndsWell end → (x : IsLinkServed hearing u p input out end) → AreEvents most_requests all x.served.exchange.events
  all_events Closed good x = of_all (λ (bytes : List ℕ). AreEvents most_requests bytes x.served.exchange.events) x.served.exchange.taken x.served.is.0
  all_events Shut good x = of_all (λ (bytes : List ℕ). AreEvents most_requests bytes x.served.exchange.events) x.served.exchange.taken x.served.is.0
  all_events Starved good x = absurd good
  all_events ReadFault good x = absurd good
  all_events WriteFault good x = absurd good

  all_written : (end : ConnEnd) → EndsWell end → (x : IsLinkServed hearing u p input out end) → Appends out.written out.written_after (written_of x.served.exchange.answers)
  all_written Closed good x = x.served.is.3
  all_written Shut good x = x.served.is.2
  all_written Starved good x = absurd good
  all_written ReadFault good x = absurd good
  all_written WriteFault good x = absurd good

  all_spent : (end : ConnEnd) → EndsWell end → (x : IsLinkServed hearing u p input out end) → p.spent ≡ u.spent + costs x.served.exchange.answers
  all_spent Closed good x = x.spent
  all_spent Shut good x = x.spent
  all_spent Starved good x = absurd good
  all_spent ReadFault good x = absurd good
  all_spent WriteFault good x = absurd good

-- how many requests there were tells the end
ends_are : {W : Type 0} (hearing : W → Hearing) (u v p q : LinkState W) (input again : Taken) (out next : Put) (end ending : ConnEnd) → EndsWell end → EndsWell ending →
    (x : IsLinkServed hearing u p input out end) (y : IsLinkServed hearing v q again next ending) → x.served.exchange.events ≡ y.served.exchange.events → end ≡ ending
ends_are hearing u v p q input again out next Closed Closed good fine x y same = refl
ends_are hearing u v p q input again out next Closed Shut good fine x y same = absurd (omega (arith, x.served.is.1, y.served.is.1, ap length same))
ends_are hearing u v p q input again out next Shut Closed good fine x y same = absurd (omega (arith, x.served.is.1, y.served.is.1, ap length same))
ends_are hearing u v p q input again out next Shut Shut good fine x y same = refl
ends_are hearing u v p q input again out next Closed Starved good fine x y same = absurd fine
ends_are hearing u v p q input again out next Closed ReadFault good fine x y same = absurd fine
ends_are hearing u v p q input again out next Closed WriteFault good fine x y same = absurd fine
ends_are hearing u v p q input again out next Shut Starved good fine x y same = absurd fine
ends_are hearing u v p q input again out next Shut ReadFault good fine x y same = absurd fine
ends_are hearing u v p q input again out next Shut WriteFault good fine x y same = absurd fine
ends_are hearing u v p q input again out next Starved ending good fine x y same = absurd good
ends_are hearing u v p q input again out next ReadFault ending good fine x y same = absurd good
ends_are hearing u v p q input again out next WriteFault ending good fine x y same = absurd good

-- two accounts of one connection that both end well
module _ {W : Type 0} (reaches : Reaches) (once : OneReply) (hearing : W → Hearing) (bytes : List ℕ) (one other : Account W) (both : AreAccounts hearing bytes one other) where
  abbrev events : List Event
  events = both.served.served.exchange.events

  abbrev events_too : List Event
  events_too = both.served_too.served.exchange.events

  abbrev answers : List LinkAnswer
  answers = both.served.served.exchange.answers

  abbrev answers_too : List LinkAnswer
  answers_too = both.served_too.served.exchange.answers

  one_events : events ≡ events_too
  one_events =
      one_list_of_events most_requests bytes events events_too
      (all_events hearing one.old one.new bytes one.input one.out both.brings one.end both.well both.served)
      (all_events hearing other.old other.new bytes other.input other.out both.brings_too other.end both.well_too both.served_too)

  one_run : IsOneRun answers answers_too one.new.map_state other.new.map_state
  one_run =
      let run : Run MapStep one.old.map_state events_too answers one.new.map_state =
      subst (λ (es : List Event). Run MapStep one.old.map_state es answers one.new.map_state) one_events (link_run hearing one.old one.new one.input one.out one.end both.served) in
      let also : Run MapStep one.old.map_state events_too answers_too other.new.map_state =
      subst (λ (s : State). Run MapStep s events_too answers_too other.new.map_state) (sym both.alike.map_state)
      (link_run hearing other.old other.new other.input other.out other.end both.served_too) in
      same_run reaches once events_too one.old.map_state one.new.map_state other.new.map_state answers answers_too both.reached run also

  -- they tell the watchers the same changes
  pub one_told : changes answers ≡ changes answers_too
  one_told = one_run.same_changes

  -- they leave states that are alike
  pub one_state : AreLikeStates one.new other.new
  one_state = record {
    map_state = one_run.same_state;
    spent = all_spent hearing one.old one.new bytes one.input one.out both.brings one.end both.well both.served
        ∙ ap (λ (n : ℕ). n + costs answers) both.alike.spent ∙ ap (λ (n : ℕ). other.old.spent + n) (one_run.same_costs 0)
        ∙ sym (all_spent hearing other.old other.new bytes other.input other.out both.brings_too other.end both.well_too both.served_too);
  }

  -- they end alike
  pub one_ending : one.end ≡ other.end
  one_ending = ends_are hearing one.old other.old one.new other.new one.input other.input one.out other.out one.end other.end both.well both.well_too both.served both.served_too one_events

  -- they write the same bytes
  pub one_written : one.out.written ≡ other.out.written → one.out.written_after ≡ other.out.written_after
  one_written same =
      let texts = sym (joined_replies answers) ∙ ap joined one_run.same_replies ∙ joined_replies answers_too in
      let wrote : Appends other.out.written one.out.written_after (written_of answers) =
      subst (λ (o : Option (List ℕ)). Appends o one.out.written_after (written_of answers)) same
      (all_written hearing one.old one.new bytes one.input one.out both.brings one.end both.well both.served) in
      appends_once other.out.written one.out.written_after other.out.written_after _ _ texts wrote
      (all_written hearing other.old other.new bytes other.input other.out both.brings_too other.end both.well_too both.served_too)

-- the replies that bytes are owed are one list
pub one_owed : (reaches : Reaches) (one : OneReply) (s : State) (bytes : List ℕ) (xs ys : List (List ℕ)) → IsState s → AreReplies s bytes xs → AreReplies s bytes ys → xs ≡ ys
one_owed reaches one s bytes xs ys is x y =
    let events = one_list_of_events most_requests bytes x.events y.events x.all y.all in
    let run : Run MapStep s y.events x.answers x.last = subst (λ (es : List Event). Run MapStep s es x.answers x.last) events x.run in
    x.are ∙ (same_run reaches one y.events s x.last y.last x.answers y.answers is run y.run).same_replies ∙ sym y.are

-- what a connection got is a beginning of what its bytes are owed
module _ {W : Type 0} (reaches : Reaches) (once : OneReply) (hearing : W → Hearing) (u p : LinkState W) (all : List ℕ) (input : Taken) (out : Put) (texts : List (List ℕ))
    (brings : input.left ≡ Some all) (is : IsState u.map_state) (owed : AreReplies u.map_state all texts) where
  -- where the events that were answered are the first of all, so are the replies
  begins : (end : ConnEnd) → (x : IsLinkServed hearing u p input out end) →
      ((others : List Event) × (owed.events ≡ x.served.exchange.events ++ others)) → BeginWith texts (replies x.served.exchange.answers)
  begins end x more =
      let events = x.served.exchange.events in
      let run : Run MapStep u.map_state (events ++ more.0) owed.answers owed.last = subst (λ (es : List Event). Run MapStep u.map_state es owed.answers owed.last) more.1 owed.run in
      let first = run_begins reaches once events more.0 u.map_state p.map_state owed.last x.served.exchange.answers owed.answers is (link_run hearing u p input out end x) run in
      record { rest = first.rest; are = owed.are ∙ first.are }

  whole : (end : ConnEnd) → EndsWell end → IsLinkServed hearing u p input out end → Appends out.written out.written_after (joined texts)
  whole end good x =
      let answers = x.served.exchange.answers in
      let events = one_list_of_events most_requests all x.served.exchange.events owed.events (all_events hearing u p all input out brings end good x) owed.all in
      let run : Run MapStep u.map_state owed.events answers p.map_state = subst (λ (es : List Event). Run MapStep u.map_state es answers p.map_state) events (link_run hearing u p input out end x) in
      let same = same_run reaches once owed.events u.map_state p.map_state owed.last answers owed.answers is run owed.run in
      let texts_are : written_of answers ≡ joined texts = sym (joined_replies answers) ∙ ap joined (same.same_replies ∙ sym owed.are) in
      subst (λ (r : List ℕ). Appends out.written out.written_after r) texts_are (all_written hearing u p all input out brings end good x)

  -- the events that were answered, of bytes that were brought whole
  first_of : (taken : List ℕ) (events : List Event) → AreFirstEvents most_requests (brought input.left taken) events → (others : List Event) × (owed.events ≡ events ++ others)
  first_of taken events first =
      events_of_first most_requests all events owed.events (of_all hearing u p all input out brings (λ (bytes : List ℕ). AreFirstEvents most_requests bytes events) taken first) owed.all

  -- what was put is a beginning of the texts that are owed
  pub beginning : (end : ConnEnd) → IsLinkServed hearing u p input out end → IsBeginning end out.written out.written_after texts
  beginning Closed x = whole Closed tt x
  beginning Shut x = whole Shut tt x
  beginning ReadFault x =
      let answers = x.served.exchange.answers in
      let taken = x.served.exchange.taken in
      let takes : Draws (Some all) input.left_after taken = subst (λ (told : Option (List ℕ)). Draws told input.left_after taken) brings x.served.takes in
      let events : AreEvents most_requests (taken ++ takes.0) owed.events = subst (λ (bytes : List ℕ). AreEvents most_requests bytes owed.events) takes.2 owed.all in
      let first = events_of_prefix most_requests taken takes.0 x.served.exchange.events owed.events x.served.is.0 events in
      (replies answers, begins ReadFault x first, subst (λ (r : List ℕ). Appends out.written out.written_after r) (sym (joined_replies answers)) x.served.is.2)
  beginning Starved x =
      let answers = x.served.exchange.answers in
      let first = first_of x.served.exchange.taken x.served.exchange.events x.served.is.0 in
      (replies answers, begins Starved x first, subst (λ (r : List ℕ). Appends out.written out.written_after (r ++ memory_reply)) (sym (joined_replies answers)) x.served.is.2)
  beginning WriteFault x = (replies x.served.exchange.answers, begins WriteFault x (first_of x.served.exchange.taken x.served.exchange.events x.served.is.0), cut x.served.is.1)
    where
      cut : {A : Type 0} {front : List (List ℕ)} → (IsCut out.written out.written_after front ⊎ (A × IsCut out.written out.written_after (front ++ memory_reply ∷ []))) →
          IsCut out.written out.written_after front ⊎ IsCut out.written out.written_after (front ++ memory_reply ∷ [])
      cut (inl at) = inl at
      cut (inr at) = inr at.1
