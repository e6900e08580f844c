-- States that are offered one after another.
use Rattle.std.proofs.Common.{◌≡◌, ℕ, ◌+◌, Bool, true, false, List, [], ◌∷◌, ◌++◌, length, take, Option, Some, None, Ok, Err, arith, refl, sym, ap, ◌∙◌, subst, inl, inr, append_assoc, length-append}
use Rattle.std.specs.Prelude.{MatchBool, ◌&&◌}
use Rattle.std.proofs.Math.ListN.{get_or-append}
use Rattle.std.proofs.lemmas.Grind.{flat_map-append}
use Rattle.std.proofs.lemmas.List.{append-nil, map-append, get_or-append-add}
use Rattle.std.proofs.lemmas.List.Elements.{All-append, All-cons, All-nil}
use Rattle.ml_ratio.specs.Count.{one_more}
use Rattle.ml_io.specs.Calls.{Put}
use Rattle.ml_io.specs.Causes.{Appends, AppendsPart, IsCut}
use Rattle.ml_follow.specs.Follower.{IsOfferFault}
use Rattle.ml_follow.specs.declared.fault.OfferFault.{OfferFault}
use Rattle.ml_follow.specs.declared.fault.OfferFault.TheVariants.{Stale, NotBest, Memory}
use Rattle.ml_follow.specs.declared.state.State.{State}
use Rattle.ml_watch.specs.Hearing.{Hearing, AllHear}
use Rattle.ml_watch.specs.declared.change.Change.{Change}
use Rattle.ml_command.specs.FollowLines.{spelled_ids, IsFaultLine}
use Rattle.ml_command.specs.Following.{Offered, IsOffer, Offers, lines_of, changes_of, joined, AllAdopted, SomeNotAdopted}
use Rattle.ml_command.specs.Offering.{AreAnswered, AreOffered, IsOfferPrinted}
use Rattle.ml_command.specs.declared.following.Halt.{Halt}
use Rattle.ml_command.specs.declared.following.Halt.TheVariants as halt

-- nothing was printed; a text was printed, and then another
printed_nothing : (a : Option (List ℕ)) → Appends a a []
printed_nothing None = refl
printed_nothing (Some xs) = ap Some (sym (append-nil xs))

-- where a text was printed and then another, both were printed, one behind the other
pub printed_on : (a b c : Option (List ℕ)) (p q : List ℕ) → Appends a b p → Appends b c q → Appends a c (p ++ q)
printed_on None b c p q first second = rw first at second
printed_on (Some xs) b c p q first second = (let is = rw first at second in is ∙ ap Some (append_assoc xs p q))

-- a state that a fault passes over
pub passed_over : (held : Option State) (state : State) (fault : OfferFault) (line : List ℕ) → IsOfferFault held state fault
    → IsFaultLine state.rev (spelled_ids state.labels) fault line → IsOffer held state (record { line = line; adopted = false; changes = [] }) held
passed_over held state (Stale now) line why is = inr (inl (now, why, record { held_is = refl; changes = refl; line_is = is; says = refl }))
passed_over held state (NotBest verdict) line why is = inr (inr (verdict, why.0, why.1, why.2, record { held_is = refl; changes = refl; line_is = is; says = refl }))
passed_over held state Memory line why is = absurd is

-- some answer of either list does not adopt
some_left : (xs ys : List Offered) → SomeNotAdopted xs → SomeNotAdopted (xs ++ ys)
some_left xs ys (k, x, lt, e, p) = (k, x, omega (arith, length-append xs ys), get_or-append xs ys x k lt ∙ e, p)

some_right : (xs ys : List Offered) → SomeNotAdopted ys → SomeNotAdopted (xs ++ ys)
some_right xs ys (k, x, lt, e, p) = (length xs + k, x, omega (arith, length-append xs ys), get_or-append-add xs ys k x ∙ e, p)

some_one : (x : Offered) → x.adopted ≡ false → SomeNotAdopted (x ∷ [])
some_one x p = (0, x, omega arith, refl, p)

all_one : (x : Offered) → x.adopted ≡ true → AllAdopted (x ∷ [])
all_one x p = All-cons (λ a. a.adopted ≡ true) x [] p (All-nil (λ a. a.adopted ≡ true))

-- whether all adopt, after one more answer
told_more : (all adopted : Bool) (xs : List Offered) (x : Offered) → x.adopted ≡ adopted → MatchBool all (AllAdopted xs) (SomeNotAdopted xs)
    → MatchBool (all && adopted) (AllAdopted (xs ++ x ∷ [])) (SomeNotAdopted (xs ++ x ∷ []))
told_more true true xs x is so_far = All-append (λ a. a.adopted ≡ true) xs (x ∷ []) so_far (all_one x is)
told_more true false xs x is so_far = some_right xs (x ∷ []) (some_one x is)
told_more false adopted xs x is so_far = some_left xs (x ∷ []) so_far

offers_on : (a b c : Option State) (states : List State) (answers : List Offered) (state : State) (answer : Offered) →
    Offers a states answers b → IsOffer b state answer c → Offers a (states ++ state ∷ []) (answers ++ answer ∷ []) c
offers_on a b c [] [] state answer so_far next = (c, rw so_far at next, refl)
offers_on a b c [] (x ∷ xs) state answer so_far next = absurd so_far
offers_on a b c (s ∷ ss) [] state answer so_far next = absurd so_far
offers_on a b c (s ∷ ss) (x ∷ xs) state answer so_far next = (so_far.0, so_far.1, offers_on so_far.0 b c ss xs state answer so_far.2 next)

-- the changes of one more answer
changes_more : (xs : List Offered) (x : Offered) → changes_of (xs ++ x ∷ []) ≡ changes_of xs ++ x.changes
changes_more xs x = flat_map-append (λ a. a.changes) xs (x ∷ []) ∙ ap (λ cs. changes_of xs ++ cs) (append-nil x.changes)

lines_more : (xs : List Offered) (x : Offered) → lines_of (xs ++ x ∷ []) ≡ lines_of xs ++ x.line ∷ []
lines_more xs x = map-append (λ a. a.line) xs (x ∷ [])

-- a further text comes behind those that are joined
pub joined_more : (texts : List (List ℕ)) (text : List ℕ) → joined (texts ++ text ∷ []) ≡ joined texts ++ text
joined_more texts text = flat_map-append (λ t. t) texts (text ∷ []) ∙ ap (λ xs. joined texts ++ xs) (append-nil text)

-- texts that were printed whole, and then a part of one more
pub cut_after_all : (a b c : Option (List ℕ)) (texts : List (List ℕ)) (text : List ℕ) → Appends a b (joined texts) → AppendsPart b c text → IsCut a c (texts ++ text ∷ [])
cut_after_all a b c texts text wrote part = record {
  front = texts;
  last = text;
  parts = refl;
  size = part.0;
  short = part.1;
  wrote = printed_on a b c (joined texts) (take part.0 text) wrote part.2;
}

-- that watchers who were told some changes and then others were told them all
abbrev pub HearTwice : {W : Type 0} → (W → Hearing) → Type 0
HearTwice {W} hearing =
    (first second : List Change) (old between new : List W) → AllHear hearing first old between → AllHear hearing second between new → AllHear hearing (first ++ second) old new

answered_more : {W : Type 0} (hearing : W → Hearing) → HearTwice hearing → (a b c : Option State) (states : List State) (answers : List Offered) (state : State) (answer : Offered) (u v w : List W)
    → AreAnswered hearing a states answers b u v → IsOffer b state answer c → AllHear hearing answer.changes v w → AreAnswered hearing a (states ++ state ∷ []) (answers ++ answer ∷ []) c u w
answered_more hearing twice a b c states answers state answer u v w so_far next heard = record {
  offers = offers_on a b c states answers state answer so_far.offers next;
  hears = subst (λ changes. AllHear hearing changes u w) (sym (changes_more answers answer)) (twice (changes_of answers) answer.changes u v w so_far.hears heard);
}

-- what was put to the output from one time to another: the bytes written and the count of faults at both
abbrev pub put_between : Option (List ℕ) → Option (List ℕ) → ℕ → ℕ → Put
put_between written written_after faults faults_after = record { written = written; written_after = written_after; faults = faults; faults_after = faults_after }

-- the first of the states were offered and all their lines printed; these are left
pub record SoFar {W : Type 0} (hearing : W → Hearing) (held : Option State) (states rest : List State) (held_now : Option State)
    (crowd crowd_now : List W) (written written_now : Option (List ℕ)) (writes writes_now : ℕ) (all : Bool) : Type 0 where
  pub front : List State
  pub are : states ≡ front ++ rest
  pub answers : List Offered
  pub answered : AreAnswered hearing held front answers held_now crowd crowd_now
  pub wrote : Appends written written_now (joined (lines_of answers))
  pub told : MatchBool all (AllAdopted answers) (SomeNotAdopted answers)
  pub calm : writes_now ≡ writes

-- before any state is offered, all are left and nothing was printed
pub at_start : {W : Type 0} (hearing : W → Hearing) (held : Option State) (states : List State) (crowd : List W) (written : Option (List ℕ)) (writes : ℕ) → AllHear hearing [] crowd crowd
    → SoFar hearing held states states held crowd crowd written written writes writes true
at_start hearing held states crowd written writes nothing = record {
  front = [];
  are = refl;
  answers = [];
  answered = record { offers = refl; hears = nothing };
  wrote = printed_nothing written;
  told = All-nil (λ a. a.adopted ≡ true);
  calm = refl;
}

module _ {W : Type 0} (hearing : W → Hearing) (twice : HearTwice hearing) (held : Option State) (states : List State) (state : State) (rest : List State)
    (held_now : Option State) (crowd crowd_now : List W) (written written_now : Option (List ℕ)) (writes writes_now : ℕ) (all : Bool)
    (so_far : SoFar hearing held states (state ∷ rest) held_now crowd crowd_now written written_now writes writes_now all)
    (held_after : Option State) (crowd_after : List W) (written_after : Option (List ℕ)) (writes_after : ℕ) where
  -- one state more, with its line
  pub next_turn : (adopted : Bool) → IsOfferPrinted hearing held_now state held_after crowd_now crowd_after (put_between written_now written_after writes_now writes_after) (Ok adopted)
      → SoFar hearing held states rest held_after crowd crowd_after written written_after writes writes_after (all && adopted)
  next_turn adopted (answer, (offer, heard), wrote, says, calm) = record {
    front = so_far.front ++ state ∷ [];
    are = so_far.are ∙ sym (append_assoc so_far.front (state ∷ []) rest);
    answers = so_far.answers ++ answer ∷ [];
    answered = answered_more hearing twice held held_now held_after so_far.front so_far.answers state answer crowd crowd_now crowd_after so_far.answered offer heard;
    wrote = subst (λ text. Appends written written_after text) (sym (ap joined (lines_more so_far.answers answer) ∙ joined_more (lines_of so_far.answers) answer.line))
        (printed_on written written_now written_after (joined (lines_of so_far.answers)) answer.line so_far.wrote wrote);
    told = told_more all adopted so_far.answers answer says so_far.told;
    calm = calm ∙ so_far.calm;
  }

  -- one state more, with a part of its line; or memory was wanting for it
  pub halted_at : (why : Halt) → IsOfferPrinted hearing held_now state held_after crowd_now crowd_after (put_between written_now written_after writes_now writes_after) (Err why)
      → AreOffered hearing held states held_after crowd crowd_after (put_between written written_after writes writes_after) (Err why)
  halted_at halt.WriteFault (answer, (offer, heard), part, failed) = (
    record {
      front = so_far.front ++ state ∷ [];
      rest = rest;
      are = so_far.are ∙ sym (append_assoc so_far.front (state ∷ []) rest);
      answers = so_far.answers ++ answer ∷ [];
      answered = answered_more hearing twice held held_now held_after so_far.front so_far.answers state answer crowd crowd_now crowd_after so_far.answered offer heard;
      printed = subst (λ texts. IsCut written written_after texts) (sym (lines_more so_far.answers answer))
          (cut_after_all written written_now written_after (lines_of so_far.answers) answer.line so_far.wrote part);
    },
    failed ∙ ap one_more so_far.calm,
  )
  halted_at halt.Memory (same_held, same_crowd, same_written, same_writes) = (
    record {
      front = so_far.front;
      rest = state ∷ rest;
      are = so_far.are;
      answers = so_far.answers;
      answered = rw (same_held, same_crowd) so_far.answered;
      printed = rw same_written so_far.wrote;
    },
    same_writes ∙ so_far.calm,
  )

-- none is left
pub at_end : {W : Type 0} (hearing : W → Hearing) (held : Option State) (states rest : List State) (held_now : Option State)
    (crowd crowd_now : List W) (written written_now : Option (List ℕ)) (writes writes_now : ℕ) (all : Bool) →
    rest ≡ [] → SoFar hearing held states rest held_now crowd crowd_now written written_now writes writes_now all →
    AreOffered hearing held states held_now crowd crowd_now (put_between written written_now writes writes_now) (Ok all)
at_end hearing held states rest held_now crowd crowd_now written written_now writes writes_now all none so_far =
    let are : states ≡ so_far.front = so_far.are ∙ ap (λ xs. so_far.front ++ xs) none ∙ append-nil so_far.front in
    (so_far.answers, rw are so_far.answered, so_far.wrote, so_far.told, so_far.calm)
