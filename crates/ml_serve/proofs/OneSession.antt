-- Two sessions over the same links write the same, tell the same changes and leave states that are alike.
use Rattle.std.proofs.Common.{◌≡◌, ℕ, List, [], ◌∷◌, ◌++◌, length, map, Option, Some, refl, sym, ap, subst, ◌∙◌, arith}
use Rattle.std.specs.Prelude.{flat_map}
use Rattle.ml_io.specs.Calls.{LinkEnds, Passed, Put, Taken}
use Rattle.ml_io.specs.Takes.{Takes}
use Rattle.ml_io.specs.declared.link.Link.{Link}
use Rattle.ml_watch.specs.Hearing.{Hearing}
use Rattle.ml_watch.specs.declared.change.Change.{Change}
use Rattle.ml_editor.specs.State.{IsState}
use Rattle.ml_http.specs.Link.{LinkState, IsLinkServed}
use Rattle.ml_http.specs.Once.{Account, AreAccounts, AreLikeStates, EndsWell}
use Rattle.ml_http.specs.Step.{LinkAnswer}
use Rattle.ml_http.specs.declared.connection_end.ConnEnd.{ConnEnd}
use Rattle.ml_http.specs.Connection.{Exchange}
use Rattle.ml_serve.specs.Headline.{changes_in}
use Rattle.ml_serve.specs.Once.{AreOverTheSame, AreTold, AllEndWell, Session}
use Rattle.ml_serve.specs.Session.{Follow, Visit}
use Rattle.ml_serve.specs.Visit.{IsVisit, put_in, taken_in}

-- what laws of connections tell
abbrev pub StaysReached : Type 0 → Type 0
StaysReached W = (hearing : W → Hearing) (old new : LinkState W) (input : Taken) (out : Put) (end : ConnEnd) →
    IsState old.map_state → IsLinkServed hearing old new input out end → IsState new.map_state

-- the changes that a connection was told to make
abbrev pub changes_of : Exchange LinkAnswer → List Change
changes_of exchange = flat_map (λ (a : LinkAnswer). a.changes) exchange.answers

-- two accounts of one connection write the same, tell the same changes and leave states that are alike
pub record OneAccount (W : Type 0) : Type 0 where
  pub written : (hearing : W → Hearing) (bytes : List ℕ) (one other : Account W) → AreAccounts hearing bytes one other →
      one.out.written ≡ other.out.written → one.out.written_after ≡ other.out.written_after
  pub told : (hearing : W → Hearing) (bytes : List ℕ) (one other : Account W) (both : AreAccounts hearing bytes one other) →
      changes_of both.served.served.exchange ≡ changes_of both.served_too.served.exchange
  pub states : (hearing : W → Hearing) (bytes : List ℕ) (one other : Account W) → AreAccounts hearing bytes one other → AreLikeStates one.new other.new

-- a session leads from a state that can be reached to one
pub follow_state : {W I O : Type 0} (stays : StaysReached W) (hearing : W → Hearing) (ends : LinkEnds I O) (old new : LinkState W) (visits : List (Visit I O LinkAnswer)) →
    IsState old.map_state → Follow (IsVisit hearing ends) old visits new → IsState new.map_state
follow_state {W} stays hearing ends old new [] is e = subst (λ (s : LinkState W). IsState s.map_state) (sym e) is
follow_state stays hearing ends old new (visit ∷ visits) is x =
    follow_state stays hearing ends x.0 new visits (stays hearing old x.0 (taken_in ends visit) (put_in ends visit) visit.end is x.1.served) x.2

-- two lists that stand at the front of one, and are as long, are one
same_front : {A : Type 0} (xs ys r t : List A) → length xs ≡ length ys → xs ++ r ≡ ys ++ t → xs ≡ ys
same_front [] [] r t n e = refl
same_front [] (y ∷ ys) r t n e = absurd (omega (arith, n))
same_front (x ∷ xs) [] r t n e = absurd (omega (arith, n))
same_front (x ∷ xs) (y ∷ ys) r t n e =
    let head : x ≡ y = cc (e) in
    let behind : xs ++ r ≡ ys ++ t = cc (e) in
    let tail : xs ≡ ys = same_front xs ys r t (omega (arith, n)) behind in
    cc (head, tail)

same_length : {A B : Type 0} (f : A → B) (xs : List A) → length (map f xs) ≡ length xs
same_length f [] = refl
same_length f (x ∷ xs) = let h = same_length f xs in omega (arith, h)

-- the links that two sessions of as many visits took from one list
same_links : {I O : Type 0} (door again : Passed I O) (visits others : List (Visit I O LinkAnswer)) (links : List (Link I O)) →
    door.coming ≡ Some links → again.coming ≡ Some links → length visits ≡ length others →
    Takes door.coming door.coming_after (map (λ (v : Visit I O LinkAnswer). v.came) visits) → Takes again.coming again.coming_after (map (λ (v : Visit I O LinkAnswer). v.came) others) →
    map (λ (v : Visit I O LinkAnswer). v.came) visits ≡ map (λ (v : Visit I O LinkAnswer). v.came) others
same_links {I} {O} door again visits others links came also many x y =
    let f : Visit I O LinkAnswer → Link I O = λ (v : Visit I O LinkAnswer). v.came in
    let one : Takes (Some links) door.coming_after (map f visits) = subst (λ (coming : Option (List (Link I O))). Takes coming door.coming_after (map f visits)) came x in
    let two : Takes (Some links) again.coming_after (map f others) = subst (λ (coming : Option (List (Link I O))). Takes coming again.coming_after (map f others)) also y in
    same_front (map f visits) (map f others) one.0 two.0 (same_length f visits ∙ many ∙ sym (same_length f others)) (sym one.2 ∙ two.2)

module _ {W I O : Type 0} (stays : StaysReached W) (account : OneAccount W) (hearing : W → Hearing) (ends : LinkEnds I O) where
  abbrev written : List (Visit I O LinkAnswer) → List (Option (List ℕ))
  written visits = map (λ (v : Visit I O LinkAnswer). ends.written v.gone.sink) visits

  abbrev links_of : List (Visit I O LinkAnswer) → List (Link I O)
  links_of visits = map (λ (v : Visit I O LinkAnswer). v.came) visits

  record AreOne (visits others : List (Visit I O LinkAnswer)) (p q : LinkState W) : Type 0 where
    replies : written visits ≡ written others
    told : flat_map changes_in visits ≡ flat_map changes_in others
    states : AreLikeStates p q

  -- a visit, as an account of its connection
  abbrev account_of : LinkState W → Visit I O LinkAnswer → LinkState W → Account W
  account_of old visit new = record { old = old; new = new; input = taken_in ends visit; out = put_in ends visit; end = visit.end }

  -- visits of one link that tells its bytes are two accounts of one connection
  abbrev accounts : (visit other : Visit I O LinkAnswer) (u v p q : LinkState W) (bytes : List ℕ) → IsState u.map_state → AreLikeStates u v → EndsWell visit.end → EndsWell other.end →
      visit.came ≡ other.came → ends.left visit.came.source ≡ Some bytes → IsVisit hearing ends u visit p → IsVisit hearing ends v other q →
      AreAccounts hearing bytes (account_of u visit p) (account_of v other q)
  accounts visit other u v p q bytes is like good fine same brings x y = record {
    reached = is;
    alike = like;
    brings = brings;
    brings_too = ap (λ (l : Link I O). ends.left l.source) (sym same) ∙ brings;
    well = good;
    well_too = fine;
    served = x.served;
    served_too = y.served;
  }

  sessions : (visits others : List (Visit I O LinkAnswer)) (u v p q : LinkState W) → IsState u.map_state → AreLikeStates u v →
      links_of visits ≡ links_of others → AreTold ends visits → AllEndWell visits → AllEndWell others
      → Follow (IsVisit hearing ends) u visits p → Follow (IsVisit hearing ends) v others q → AreOne visits others p q
  sessions [] [] u v p q is like same told good fine x y = record {
    replies = refl;
    told = refl;
    states = record {
      map_state = ap (λ (s : LinkState W). s.map_state) x ∙ like.map_state ∙ sym (ap (λ (s : LinkState W). s.map_state) y);
      spent = ap (λ (s : LinkState W). s.spent) x ∙ like.spent ∙ sym (ap (λ (s : LinkState W). s.spent) y);
    };
  }
  sessions [] (w ∷ others) u v p q is like same told good fine x y = absurd (cc (same))
  sessions (visit ∷ visits) [] u v p q is like same told good fine x y = absurd (cc (same))
  sessions (visit ∷ visits) (w ∷ others) u v p q is like same told good fine x y =
      let one : visit.came ≡ w.came = cc (same) in
      let rest : links_of visits ≡ links_of others = cc (same) in
      let bytes = told.0.0 in
      let here = account_of u visit x.0 in
      let there = account_of v w y.0 in
      let both : AreAccounts hearing bytes here there = accounts visit w u v x.0 y.0 bytes is like good.0 fine.0 one told.0.1 x.1 y.1 in
      let wrote = account.written hearing bytes here there both (ap (λ (l : Link I O). ends.written l.sink) one) in
      let left = account.states hearing bytes here there both in
      let mid = stays hearing u x.0 (taken_in ends visit) (put_in ends visit) visit.end is x.1.served in
      let later = sessions visits others x.0 y.0 p q mid left rest told.1 good.1 fine.1 x.2 y.2 in
      let tale : changes_in visit ≡ changes_in w = ap changes_of x.1.exchange ∙ account.told hearing bytes here there both ∙ sym (ap changes_of y.1.exchange) in
      record {
        told = ap (λ (cs : List Change). cs ++ flat_map changes_in visits) tale ∙ ap (λ (cs : List Change). changes_in w ++ cs) later.told;
        replies = ap (λ (o : Option (List ℕ)). o ∷ written visits) wrote ∙ ap (λ (os : List (Option (List ℕ))). ends.written w.gone.sink ∷ os) later.replies;
        states = later.states;
      }

  -- the same of sessions as their headlines tell them
  both : (links : List (Link I O)) (one other : Session W I O) → AreOverTheSame hearing ends links one other → AreOne one.visits other.visits one.last other.last
  both links one other same =
      sessions one.visits other.visits one.first other.first one.last other.last same.reached same.alike
      (same_links one.door other.door one.visits other.visits links same.coming same.coming_too same.as_many same.headline.came same.headline_too.came)
      same.told same.well same.well_too same.headline.replies same.headline_too.replies

  -- they write the same to each connection
  pub one_replies : (links : List (Link I O)) (one other : Session W I O) → AreOverTheSame hearing ends links one other → written one.visits ≡ written other.visits
  one_replies links one other same = (both links one other same).replies

  -- they tell the watchers the same changes
  pub one_told : (links : List (Link I O)) (one other : Session W I O) → AreOverTheSame hearing ends links one other → flat_map changes_in one.visits ≡ flat_map changes_in other.visits
  one_told links one other same = (both links one other same).told

  -- they leave states that are alike
  pub one_states : (links : List (Link I O)) (one other : Session W I O) → AreOverTheSame hearing ends links one other → AreLikeStates one.last other.last
  one_states links one other same = (both links one other same).states
