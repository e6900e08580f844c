-- One turn of a connection, and what follows it.
use Rattle.std.proofs.Common.{◌≡◌, ℕ, ◌-◌, ◌<◌, Bool, true, false, ◌==◌, List, [], ◌∷◌, ◌++◌, take, map, flat_map, refl, ap}
use Rattle.std.proofs.Common.{◌∙◌, sym, subst, arith, inl, inr, append_assoc, append-nil, Option, Some, None, MatchBool}
use Rattle.std.proofs.lemmas.Bool.Decides.{nat_tests}
use Rattle.ml_io.specs.Calls.{Put, Taken}
use Rattle.ml_io.specs.Causes.{Appends, AppendsPart, IsCut}
use Rattle.ml_io.specs.Takes.{Draws, HasRunOut}
use Rattle.ml_request.specs.declared.request.Event.{Event}
use Rattle.ml_http.specs.declared.connection_end.ConnEnd.{ConnEnd}
use Rattle.ml_http.specs.declared.connection_end.ConnEnd.TheVariants.{Shut, Starved, Closed, ReadFault, WriteFault}
use Rattle.ml_http.specs.declared.connection_end.Turn.{Turn}
use Rattle.ml_http.specs.declared.connection_end.Turn.TheVariants.{Open, Over}
use Rattle.ml_request.specs.Stream.{BeginsWith, HasNoEvent, closes, Reads, AreFirstEvents}
use Rattle.ml_http.specs.Connection.{memory_reply, brought, bytes_from, Exchange, Machine, Position, IsConnEnd, IsServed, IsOpenTurn, IsTurn, IsReply, IsLast, IsStarved}
use Rattle.ml_request.proofs.lemmas.Streams.{event_grows}
use Rattle.ml_request.proofs.lemmas.Takes.{takes_nothing, takes_twice, appends_nothing, appends_twice}

-- what a source brought, piece by piece
nothing_more : (bs : List ℕ) (c : Option (List ℕ)) (rest : List ℕ) → bs ≡ [] → Draws (Some bs) c rest → rest ≡ bs
nothing_more bs c rest none draws = empty_front rest draws.0 (sym none ∙ draws.2) ∙ sym none
  where
    empty_front : (xs ys : List ℕ) → [] ≡ xs ++ ys → xs ≡ []
    empty_front [] ys e = refl
    empty_front (x ∷ xs) ys e = cc

brought_step : (a b c : Option (List ℕ)) (piece rest : List ℕ) → Draws a b piece → Draws b c rest → brought a (piece ++ rest) ≡ piece ++ brought b rest
brought_step None None c piece rest draws later = refl
brought_step None (Some left) c piece rest draws later = ap (λ xs. piece ++ xs) (nothing_more left c rest draws later)
brought_step (Some all) b c piece rest draws later = draws.2 ∙ ap (λ o. piece ++ brought o rest) (sym draws.1)

brought_all : (a b : Option (List ℕ)) (piece : List ℕ) → Draws a b piece → brought a piece ≡ piece ++ brought b []
brought_all a b piece draws = ap (brought a) (sym (append-nil piece)) ∙ brought_step a b b piece [] draws (takes_nothing b)

used_up : (b : Option (List ℕ)) → HasRunOut b → brought b [] ≡ []
used_up None none = absurd none
used_up (Some left) none = none

brought_end : (a b : Option (List ℕ)) (piece : List ℕ) → Draws a b piece → HasRunOut b → brought a piece ≡ piece
brought_end a b piece draws none = brought_all a b piece draws ∙ ap (λ xs. piece ++ xs) (used_up b none) ∙ append-nil piece

branch_true : {X : Type 0} (Y : Type 0) (b : Bool) → b ≡ true → X → MatchBool b X Y
branch_true Y true is x = x
branch_true Y false is x = cc

branch_false : (X : Type 0) {Y : Type 0} (b : Bool) → b ≡ false → Y → MatchBool b X Y
branch_false X true is y = cc
branch_false X false is y = y

-- the events of a stream that begins with one that does not close
reads_turn : (Rest : List ℕ → Type 0) (left fewer : ℕ) (front behind held bytes : List ℕ) (event : Event) (events : List Event) →
    BeginsWith (left == 1) front event held → closes event ≡ false → fewer ≡ left - 1 → bytes ≡ front ++ behind →
    Reads Rest fewer (held ++ behind) events → Reads Rest left bytes (event ∷ events)
reads_turn Rest left fewer front behind held bytes event events begins stays less is later =
    let rest : Reads Rest (left - 1) (held ++ behind) events = subst (λ n. Reads Rest n (held ++ behind) events) less later in
    subst (λ xs. Reads Rest left xs (event ∷ events)) (sym is)
    (held ++ behind, event_grows (left == 1) front behind event held begins, branch_false _ (closes event) stays rest)

-- the events of a stream that begins with one that closes
reads_close : (Rest : List ℕ → Type 0) (left : ℕ) (front behind held bytes : List ℕ) (event : Event) →
    BeginsWith (left == 1) front event held → closes event ≡ true → bytes ≡ front ++ behind → Reads Rest left bytes (event ∷ [])
reads_close Rest left front behind held bytes event begins shut is =
    subst (λ xs. Reads Rest left xs (event ∷ [])) (sym is)
    (held ++ behind, event_grows (left == 1) front behind event held begins, branch_true _ (closes event) shut refl)

either : {X : Type 0} (b : Bool) → X → MatchBool b X (Unit {0})
either true x = x
either false x = tt

-- the first event of a stream
reads_first : (left : ℕ) (front behind held bytes : List ℕ) (event : Event) → BeginsWith (left == 1) front event held → bytes ≡ front ++ behind → AreFirstEvents left bytes (event ∷ [])
reads_first left front behind held bytes event begins is =
    subst (λ xs. AreFirstEvents left xs (event ∷ [])) (sym is)
    (held ++ behind, event_grows (left == 1) front behind event held begins, either (closes event) refl)

-- a text that was written whole, and then a part of those behind it
cut_after : (a b c : Option (List ℕ)) (text : List ℕ) (texts : List (List ℕ)) → Appends a b text → IsCut b c texts → IsCut a c (text ∷ texts)
cut_after a b c text texts wrote cut = record {
  front = text ∷ cut.front;
  last = cut.last;
  parts = ap (λ xs. text ∷ xs) cut.parts;
  size = cut.size;
  short = cut.short;
  wrote = subst (λ xs. Appends a c xs) (sym (append_assoc text (flat_map (λ t. t) cut.front) (take cut.size cut.last)))
      (appends_twice a b c text (flat_map (λ t. t) cut.front ++ take cut.size cut.last) wrote cut.wrote);
}

-- a part of one text
cut_of_part : (a b : Option (List ℕ)) (text : List ℕ) → AppendsPart a b text → IsCut a b (text ∷ [])
cut_of_part a b text part = record { front = []; last = text; parts = refl; size = part.0; short = part.1; wrote = part.2 }

one_text : {A : Type 0} (text : A → List ℕ) (a b : Option (List ℕ)) (answer : A) → Appends a b (text answer) → Appends a b (flat_map text (answer ∷ []))
one_text text a b answer wrote = subst (λ xs. Appends a b xs) (sym (append-nil (text answer))) wrote

-- an exchange that goes on before the one that is told
abbrev after_turn : {A : Type 0} → List ℕ → Event → A → Exchange A → Exchange A
after_turn taken event answer x = record { taken = taken ++ x.taken; events = event ∷ x.events; answers = answer ∷ x.answers }

-- what was taken, and then more of the same source; what was put, and then more into the same sink
abbrev pub then_taken : Taken → Taken → Taken
then_taken input more = record { left = input.left; left_after = more.left_after; faults = input.faults; faults_after = more.faults_after }

-- what is put into one sink first and then is told as if it were put at once
abbrev pub then_put : Put → Put → Put
then_put out next = record { written = out.written; written_after = next.written_after; faults = out.faults; faults_after = next.faults_after }

-- the bytes of a turn and of what follows it
all_bytes : (a b c : Option (List ℕ)) (held taken rest : List ℕ) → Draws a b taken → Draws b c rest → held ++ brought a (taken ++ rest) ≡ (held ++ taken) ++ brought b rest
all_bytes a b c held taken rest takes later = ap (λ xs. held ++ xs) (brought_step a b c taken rest takes later) ∙ sym (append_assoc held taken (brought b rest))

-- a turn, and the rest of the exchange behind it: the rest takes and puts from where the turn left source and sink
module _ {S A : Type 0} (machine : Machine S A) (from to : Position S) (input more : Taken) (out next : Put) (turn : IsOpenTurn machine from to input out) (x : Exchange A)
    (some : 0 < from.left)
    (takes : Draws input.left more.left turn.taken)
    (later : Draws more.left more.left_after x.taken)
    (wrote : Appends out.written next.written (machine.text turn.answer)) where
  abbrev text : A → List ℕ
  text = machine.text

  abbrev answer : List ℕ
  answer = text turn.answer

  abbrev whole : Exchange A
  whole = after_turn turn.taken turn.event turn.answer x

  bytes_are : bytes_from from input whole ≡ (from.held ++ turn.taken) ++ brought more.left x.taken
  bytes_are = all_bytes input.left more.left more.left_after from.held turn.taken x.taken takes later

  turn_reads : (Rest : List ℕ → Type 0) (behind bytes : List ℕ) → bytes ≡ (from.held ++ turn.taken) ++ behind →
      Reads Rest to.left (to.held ++ behind) x.events → Reads Rest from.left bytes whole.events
  turn_reads Rest behind bytes is rest = reads_turn Rest from.left to.left (from.held ++ turn.taken) behind to.held bytes turn.event x.events turn.begins turn.stays turn.one_less is rest

  turn_puts : (rest : List ℕ) → Appends next.written next.written_after rest → Appends out.written next.written_after (answer ++ rest)
  turn_puts rest put = appends_twice out.written next.written next.written_after answer rest wrote put

  turn_cut : (texts : List (List ℕ)) → IsCut next.written next.written_after texts → IsCut out.written next.written_after (answer ∷ texts)
  turn_cut texts cut = cut_after out.written next.written next.written_after answer texts wrote cut

  -- the end of a connection after one more turn before it
  end_after : (end : ConnEnd) → IsConnEnd text to x more next end → IsConnEnd text from whole (then_taken input more) (then_put out next) end
  end_after Closed is = (
    turn_reads HasNoEvent (brought more.left x.taken) _ bytes_are is.0,
    omega (arith, is.1, turn.one_less),
    λ all. is.2 all.1,
    turn_puts (flat_map text x.answers) is.3,
  )
  end_after Shut is = (
    turn_reads HasNoEvent (brought more.left x.taken) _ bytes_are is.0,
    omega (arith, is.1, some, turn.one_less),
    turn_puts (flat_map text x.answers) is.2,
  )
  end_after Starved is = (
    turn_reads (λ rest. Unit {0}) (brought more.left x.taken) _ bytes_are is.0,
    (turn.stays, is.1),
    subst (λ xs. Appends out.written next.written_after xs) (sym (append_assoc answer (flat_map text x.answers) memory_reply))
        (turn_puts (flat_map text x.answers ++ memory_reply) is.2),
  )
  end_after ReadFault is = (
    turn_reads HasNoEvent x.taken _ (sym (append_assoc from.held turn.taken x.taken)) is.0,
    (turn.stays, is.1),
    turn_puts (flat_map text x.answers) is.2,
  )
  end_after WriteFault (reads, inl cut) = (
    turn_reads (λ rest. Unit {0}) (brought more.left x.taken) _ bytes_are reads,
    inl (turn_cut (map text x.answers) cut),
  )
  end_after WriteFault (reads, inr cut) = (
    turn_reads (λ rest. Unit {0}) (brought more.left x.taken) _ bytes_are reads,
    inr ((turn.stays, cut.0), turn_cut (map text x.answers ++ memory_reply ∷ []) cut.1),
  )

-- a turn that leaves the connection open, and then the rest of it
pub served_after : {S A : Type 0} (machine : Machine S A) (from to : Position S) (new : S) (input more : Taken) (out next : Put) (end : ConnEnd) →
    0 < from.left → input.left_after ≡ more.left → out.written_after ≡ next.written →
    IsOpenTurn machine from to input out → IsServed machine to new more next end →
    IsServed machine from new (then_taken input more) (then_put out next) end
served_after machine from to new input more out next end some source sink turn later =
    let takes : Draws input.left more.left turn.taken = subst (λ o. Draws input.left o turn.taken) source turn.takes in
    let wrote : Appends out.written next.written (machine.text turn.answer) = subst (λ o. Appends out.written o (machine.text turn.answer)) sink turn.wrote in
    record {
      exchange = after_turn turn.taken turn.event turn.answer later.exchange;
      takes = takes_twice input.left more.left more.left_after turn.taken later.exchange.taken takes later.takes;
      last = later.last;
      run = (to.state, turn.steps, later.run);
      leaves = later.leaves;
      is = end_after machine from to input more out next turn later.exchange some takes later.takes wrote end later.is;
    }

-- a connection that answers nothing more: what it takes has no event
module _ {S A : Type 0} (machine : Machine S A) (from : Position S) (input : Taken) (out : Put) (taken : List ℕ) (takes : Draws input.left input.left_after taken) where
  abbrev none : Exchange A
  none = record { taken = taken; events = []; answers = [] }

  -- the input ended
  pub served_none : 0 < from.left → HasNoEvent (from.held ++ taken) → HasRunOut input.left_after → out.written ≡ out.written_after → IsServed machine from from.state input out Closed
  served_none some no_event ended same = record {
    exchange = none;
    takes = takes;
    last = from.state;
    run = refl;
    leaves = refl;
    is = (
      subst (λ xs. HasNoEvent (from.held ++ xs)) (sym (brought_end input.left input.left_after taken takes ended)) no_event,
      some,
      λ open_. ended,
      subst (λ o. Appends out.written o []) same (appends_nothing out.written),
    );
  }

  -- the source failed
  pub served_fault : HasNoEvent (from.held ++ taken) → out.written ≡ out.written_after → IsServed machine from from.state input out ReadFault
  served_fault no_event same = record {
    exchange = none;
    takes = takes;
    last = from.state;
    run = refl;
    leaves = refl;
    is = (no_event, tt, subst (λ o. Appends out.written o []) same (appends_nothing out.written));
  }

  -- memory was wanting
  pub served_starved : (new : S) (end : ConnEnd) → machine.idle from.state new → IsStarved out end → IsServed machine from new input out end
  served_starved new Starved idle wrote = record { exchange = none; takes = takes; last = from.state; run = refl; leaves = idle; is = (tt, tt, wrote) }
  served_starved new WriteFault idle wrote = record {
    exchange = none;
    takes = takes;
    last = from.state;
    run = refl;
    leaves = inr idle;
    is = (tt, inr (tt, cut_of_part out.written out.written_after memory_reply wrote));
  }
  served_starved new Shut idle wrote = absurd wrote
  served_starved new Closed idle wrote = absurd wrote
  served_starved new ReadFault idle wrote = absurd wrote

not_one : (left : ℕ) → (left == 1) ≡ false → 0 < left → 1 < left
not_one left test some = grind (arith, nat_tests)

is_one : (left : ℕ) → (left == 1) ≡ true → 1 ≡ left
is_one left test = grind (arith, nat_tests)

-- the bytes of the last turn
last_bytes : (a b : Option (List ℕ)) (held taken : List ℕ) → Draws a b taken → held ++ brought a taken ≡ (held ++ taken) ++ brought b []
last_bytes a b held taken takes = ap (λ xs. held ++ xs) (brought_all a b taken takes) ∙ sym (append_assoc held taken (brought b []))

-- an event that was read, and the reply to it
module _ {S A : Type 0} (machine : Machine S A) (from to : Position S) (input : Taken) (out : Put) (taken : List ℕ) (event : Event)
    (some : 0 < from.left)
    (less : to.left ≡ from.left - 1)
    (takes : Draws input.left input.left_after taken)
    (begins : BeginsWith (from.left == 1) (from.held ++ taken) event to.held) where
  abbrev one : A → Exchange A
  one answer = record { taken = taken; events = event ∷ []; answers = answer ∷ [] }

  -- the bytes of the turn
  bytes_of_turn : from.held ++ brought input.left taken ≡ (from.held ++ taken) ++ brought input.left_after []
  bytes_of_turn = last_bytes input.left input.left_after from.held taken takes

  read_to_end : closes event ≡ true → Reads HasNoEvent from.left (from.held ++ brought input.left taken) (event ∷ [])
  read_to_end shut = reads_close HasNoEvent from.left (from.held ++ taken) (brought input.left_after []) to.held _ event begins shut bytes_of_turn

  -- where the reply is put as the turn says, and a closed connection is shut just after its last request, this is the turn
  pub turn_of_reply : (turn : Turn) → IsReply machine event from.state to.state out turn → IsLast (from.left == 1) turn → IsTurn machine from to input out turn
  turn_of_reply Open ((answer, steps, wrote), stays) last =
      record { taken = taken; event = event; answer = answer; takes = takes; begins = begins; stays = stays; one_less = less; steps = steps; wrote = wrote }
  turn_of_reply (Over Closed) ((answer, steps, wrote), shut) last = record {
    exchange = one answer;
    takes = takes;
    last = to.state;
    run = (to.state, steps, refl);
    leaves = refl;
    is = (
      read_to_end shut,
      not_one from.left last some,
      λ all. cc (all.0, shut),
      one_text machine.text out.written out.written_after answer wrote,
    );
  }
  turn_of_reply (Over Shut) ((answer, steps, wrote), shut) last = record {
    exchange = one answer;
    takes = takes;
    last = to.state;
    run = (to.state, steps, refl);
    leaves = refl;
    is = (read_to_end shut, is_one from.left last, one_text machine.text out.written out.written_after answer wrote);
  }
  turn_of_reply (Over Starved) (idle, wrote) last = served_starved machine from input out taken takes to.state Starved idle wrote
  turn_of_reply (Over WriteFault) (inl (answer, steps, part)) last = record {
    exchange = one answer;
    takes = takes;
    last = to.state;
    run = (to.state, steps, refl);
    leaves = inl refl;
    is = (
      reads_first from.left (from.held ++ taken) (brought input.left_after []) to.held _ event begins bytes_of_turn,
      inl (cut_of_part out.written out.written_after (machine.text answer) part),
    );
  }
  turn_of_reply (Over WriteFault) (inr (idle, part)) last = served_starved machine from input out taken takes to.state WriteFault idle part
  turn_of_reply (Over ReadFault) reply last = absurd reply
