-- Serving connections, and then more of them.
use Rattle.std.proofs.Common.{◌≡◌, ℕ, ◌+◌, List, [], ◌∷◌, ◌++◌, length, map, refl, ap, subst, ◌∙◌}
use Rattle.std.proofs.lemmas.List.{map-append, length-append}
use Rattle.ml_io.specs.Calls.{Passed}
use Rattle.ml_io.specs.declared.link.Link.{Link}
use Rattle.ml_io.specs.Causes.{Appends}
use Rattle.ml_io.specs.Takes.{Takes}
use Rattle.ml_http.specs.Step.{LinkAnswer}
use Rattle.ml_serve.proofs.Called.{NothingTaken, TakenTwice, NothingPut, PutTwice}
use Rattle.ml_serve.specs.Session.{Visit, Follow, HasServed}

follow_on : {S V : Type 0} (one : S → V → S → Type 0) (a b c : S) (xs ys : List V) → Follow one a xs b → Follow one b ys c → Follow one a (xs ++ ys) c
follow_on one a b c [] ys first second = rw first at second
follow_on one a b c (x ∷ xs) ys first second = (first.0, first.1, follow_on one first.0 b c xs ys first.2 second)

-- what was seen of a door, and then more of the same door
abbrev pub then_passed : {I O : Type 0} → Passed I O → Passed I O → Passed I O
then_passed door more = record {
  coming = door.coming;
  coming_after = more.coming_after;
  done = door.done;
  done_after = more.done_after;
  faults = door.faults;
  faults_after = more.faults_after;
  port = more.port;
  listens = more.listens;
}

-- no connection was served: the door told the same before and after
pub served_none : {S I O : Type 0} → NothingTaken (Link I O) → NothingPut (Link I O) → (one : S → Visit I O LinkAnswer → S → Type 0) (door : Passed I O) (s : S) →
    door.coming_after ≡ door.coming → door.done_after ≡ door.done → HasServed one 0 door s s
served_none none_taken none_put one door s same same_done = record {
  visits = [];
  number = refl;
  came = rw same (none_taken door.coming);
  gone = rw same_done (none_put door.done);
  states = refl;
}

-- connections were served, and then more of them, by what the door told in between
pub served_on : {S I O : Type 0} → TakenTwice (Link I O) → PutTwice (Link I O) → (one : S → Visit I O LinkAnswer → S → Type 0) (m n : ℕ) (door more : Passed I O) (s t u : S) →
    door.coming_after ≡ more.coming → door.done_after ≡ more.done →
    HasServed one m door s t → HasServed one n more t u → HasServed one (m + n) (then_passed door more) s u
served_on takes_twice appends_twice one m n door more s t u same same_done first second = record {
  visits = first.visits ++ second.visits;
  number = length-append first.visits second.visits ∙ ap (λ k. k + length second.visits) first.number ∙ ap (λ k. m + k) second.number;
  came = rw (map-append (λ v. v.came) first.visits second.visits)
      (takes_twice door.coming door.coming_after more.coming_after (map (λ v. v.came) first.visits) (map (λ v. v.came) second.visits) first.came (rw same second.came));
  gone = rw (map-append (λ v. v.gone) first.visits second.visits)
      (appends_twice door.done door.done_after more.done_after (map (λ v. v.gone) first.visits) (map (λ v. v.gone) second.visits) first.gone (rw same_done second.gone));
  states = follow_on one s t u first.visits second.visits first.states second.states;
}

-- one connection was served
pub served_one : {S I O : Type 0} (one : S → Visit I O LinkAnswer → S → Type 0) (visit : Visit I O LinkAnswer) (door : Passed I O) (s t : S) →
    Takes door.coming door.coming_after (visit.came ∷ []) → Appends door.done door.done_after (visit.gone ∷ []) → one s visit t → HasServed one 1 door s t
served_one one visit door s t came gone is = record { visits = visit ∷ []; number = refl; came = came; gone = gone; states = (t, is, refl) }
