-- What was told and spent over a whole connection.
use Rattle.std.proofs.Common.{◌≡◌, ℕ, ◌+◌, List, [], ◌∷◌, ◌++◌, flat_map, sum_by, refl, sym, ap, subst, ◌∙◌, arith, inl, inr}
use Rattle.std.proofs.lemmas.List.Sums.{sum_by-cons}
use Rattle.ml_io.specs.Calls.{Put, Taken}
use Rattle.ml_watch.specs.Hearing.{Hearing, AllHear}
use Rattle.ml_watch.specs.declared.change.Change.{Change}
use Rattle.ml_request.specs.declared.request.Event.{Event}
use Rattle.ml_http.specs.declared.connection_end.ConnEnd.{ConnEnd}
use Rattle.ml_http.specs.declared.connection_end.ConnEnd.TheVariants.{Shut, Starved, Closed, ReadFault, WriteFault}
use Rattle.ml_http.specs.Run.{Run}
use Rattle.ml_http.specs.Connection.{IsServed, IsLeft, position}
use Rattle.ml_http.specs.Step.{LinkAnswer, MapStep}
use Rattle.ml_http.specs.Link.{LinkState, LinkStep, LinkIdles, link_machine, most_requests, IsSpent, IsLinkServed, AreTexts, HoldsTexts}
use Rattle.ml_http.specs.TileWork.{IsDoneTo}
use Rattle.ml_editor.specs.State.{State}
use Rattle.ml_tile.specs.Cache.{Cache, HeldTile}

-- watchers that were told nothing are as they were, and those that were told twice were told all
module _ {W : Type 0} (hearing : W → Hearing)
    (nothing : (ws : List W) → AllHear hearing [] ws ws)
    (twice : (xs ys : List Change) (a b c : List W) → AllHear hearing xs a b → AllHear hearing ys b c → AllHear hearing (xs ++ ys) a c) where
  hears_run : (old last : LinkState W) (events : List Event) (answers : List LinkAnswer) →
      Run (LinkStep hearing) old events answers last → AllHear hearing (flat_map (λ a. a.changes) answers) old.crowd last.crowd
  hears_run old last [] [] run = rw (ap (λ s. s.crowd) run) (nothing old.crowd)
  hears_run old last [] (a ∷ answers) run = absurd run
  hears_run old last (e ∷ events) [] run = absurd run
  hears_run old last (e ∷ events) (a ∷ answers) run =
      twice a.changes (flat_map (λ b. b.changes) answers) old.crowd run.0.crowd last.crowd run.1.hears (hears_run run.0 last events answers run.2)

spent_run : {W : Type 0} (hearing : W → Hearing) (old last : LinkState W) (events : List Event) (answers : List LinkAnswer) →
    Run (LinkStep hearing) old events answers last → last.spent ≡ old.spent + sum_by (λ a. a.cost) answers
spent_run hearing old last [] [] run = let same : last.spent ≡ old.spent = ap (λ s. s.spent) run in omega arith
spent_run hearing old last [] (a ∷ answers) run = absurd run
spent_run hearing old last (e ∷ events) [] run = absurd run
spent_run hearing old last (e ∷ events) (a ∷ answers) run =
    let rest = spent_run hearing run.0 last events answers run.2 in
    let here = run.1.spent in
    let cons : sum_by (λ b. b.cost) (a ∷ answers) ≡ a.cost + sum_by (λ b. b.cost) answers = sum_by-cons (λ b. b.cost) a answers in
    omega (arith, rest, here, cons)

crowd_left : {W : Type 0} (end : ConnEnd) (last new : LinkState W) → IsLeft LinkIdles end last new → new.crowd ≡ last.crowd
crowd_left Closed last new left = ap (λ s. s.crowd) left
crowd_left Shut last new left = ap (λ s. s.crowd) left
crowd_left ReadFault last new left = ap (λ s. s.crowd) left
crowd_left Starved last new left = left.crowd
crowd_left WriteFault last new (inl left) = ap (λ s. s.crowd) left
crowd_left WriteFault last new (inr left) = left.crowd

spent_left : {W : Type 0} (end : ConnEnd) (old : ℕ) (last new : LinkState W) (answers : List LinkAnswer) →
    IsLeft LinkIdles end last new → last.spent ≡ old + sum_by (λ a. a.cost) answers → IsSpent end old new.spent answers
spent_left Closed old last new answers left is = ap (λ s. s.spent) left ∙ is
spent_left Shut old last new answers left is = ap (λ s. s.spent) left ∙ is
spent_left ReadFault old last new answers left is = ap (λ s. s.spent) left ∙ is
spent_left Starved old last new answers left is = tt
spent_left WriteFault old last new answers left is = tt

-- over a whole connection the changes of all answers were told, and their steps spent
pub link_served : {W : Type 0} (hearing : W → Hearing) → ((ws : List W) → AllHear hearing [] ws ws) →
    ((xs ys : List Change) (a b c : List W) → AllHear hearing xs a b → AllHear hearing ys b c → AllHear hearing (xs ++ ys) a c) →
    (old new : LinkState W) (input : Taken) (out : Put) (end : ConnEnd) → IsServed (link_machine hearing) (position most_requests [] old) new input out end → IsLinkServed hearing old new input out end
link_served hearing nothing twice old new input out end served = record {
  served = served;
  hears = rw (crowd_left end served.last new served.leaves) (hears_run hearing nothing twice old served.last served.exchange.events served.exchange.answers served.run);
  spent = spent_left end old.spent served.last new served.exchange.answers served.leaves (spent_run hearing old served.last served.exchange.events served.exchange.answers served.run);
}

-- to stay is to be idle
pub idles : {W : Type 0} (s : LinkState W) → LinkIdles s s
idles s = record { map_state = refl; crowd = refl; tiles = refl }

-- bodies of tiles that are right are so of the same map and the same tiles
pub same_texts : (s t : State) (old new : List HeldTile) → s ≡ t → old ≡ new → AreTexts s old → AreTexts t new
same_texts s t old new map tiles texts = subst (AreTexts t) tiles (subst (λ z. AreTexts z old) map texts)

-- the bodies of tiles stay right over answers, and so over a whole connection
module _ (right : (s t : State) (event : Event) (answer : LinkAnswer) (old new : Cache) → MapStep s event answer t →
    IsDoneTo answer.work answer.changes old new → AreTexts s old.tiles → AreTexts t new.tiles) where
  -- each body that is held stays that of its tile while one event is answered
  pub texts_stay : {W : Type 0} (hearing : W → Hearing) (old new : LinkState W) (event : Event) (answer : LinkAnswer) → LinkStep hearing old event answer new → HoldsTexts old → HoldsTexts new
  texts_stay hearing old new event answer step texts = right old.map_state new.map_state event answer old.tiles new.tiles step.by_rule step.done texts

  texts_run : {W : Type 0} (hearing : W → Hearing) (old last : LinkState W) (events : List Event) (answers : List LinkAnswer) →
      Run (LinkStep hearing) old events answers last → HoldsTexts old → HoldsTexts last
  texts_run hearing old last [] [] run texts = subst HoldsTexts (sym run) texts
  texts_run hearing old last [] (a ∷ answers) run texts = absurd run
  texts_run hearing old last (e ∷ events) [] run texts = absurd run
  texts_run hearing old last (e ∷ events) (a ∷ answers) run texts = texts_run hearing run.0 last events answers run.2 (texts_stay hearing old run.0 e a run.1 texts)

  idle_texts : {W : Type 0} (last new : LinkState W) → LinkIdles last new → HoldsTexts last → HoldsTexts new
  idle_texts last new idle texts = subst (λ c. AreTexts new.map_state c.tiles) (sym idle.tiles) (subst (λ s. AreTexts s last.tiles.tiles) (sym idle.map_state) texts)

  texts_left : {W : Type 0} (end : ConnEnd) (last new : LinkState W) → IsLeft LinkIdles end last new → HoldsTexts last → HoldsTexts new
  texts_left Closed last new left texts = subst HoldsTexts (sym left) texts
  texts_left Shut last new left texts = subst HoldsTexts (sym left) texts
  texts_left ReadFault last new left texts = subst HoldsTexts (sym left) texts
  texts_left Starved last new left texts = idle_texts last new left texts
  texts_left WriteFault last new (inl left) texts = subst HoldsTexts (sym left) texts
  texts_left WriteFault last new (inr left) texts = idle_texts last new left texts

  -- and so it does while a whole connection is served
  pub texts_served : {W : Type 0} (hearing : W → Hearing) (old new : LinkState W) (input : Taken) (out : Put) (end : ConnEnd) →
      IsServed (link_machine hearing) (position most_requests [] old) new input out end → HoldsTexts old → HoldsTexts new
  texts_served hearing old new input out end served texts =
      texts_left end served.last new served.leaves (texts_run hearing old served.last served.exchange.events served.exchange.answers served.run texts)
