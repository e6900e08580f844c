-- A stream that goes on begins with the same events.
use Rattle.std.proofs.Common.{◌≡◌, ℕ, ◌+◌, ◌-◌, ◌≤◌, Bool, true, false, List, [], ◌∷◌, ◌++◌, length, take, drop, refl, ap, ◌∙◌, sym}
use Rattle.std.proofs.Common.{subst, arith, inl, inr, length-append, Option, Some, None, Result, Ok, Err, ◌==◌, MatchBool}
use Rattle.std.proofs.lemmas.List.{take-append-le, drop-append-le, length-drop}
use Rattle.httparse.proofs.GrammarLemmas.{request_unique}
use Rattle.httparse.specs.Grammar.{RequestHead}
use Rattle.ml_request.specs.declared.request.Refusal.{Refusal}
use Rattle.ml_request.specs.declared.request.Event.{Event}
use Rattle.ml_request.specs.declared.request.Event.TheVariants.{Whole, Refused}
use Rattle.ml_request.specs.Request.{RequestParts, HeadParts}
use Rattle.ml_request.specs.Heads.{IsJudged, IsReading, judgement}
use Rattle.ml_request.specs.Stream.{HasNoMark, BeginsWithHead, IsHeadTooLong, EndsInHead, EndsInBody, HasNoEvent, request_of}
use Rattle.ml_request.specs.Stream.{BeginsWithRequest, BeginsRefused, BeginsWith, closes, AreEvents, AreFirstEvents}
use Rattle.ml_request.proofs.Marks.{size_fits, size_grows, one_size, no_mark_short}

-- bytes are at most one head
one_reading : (bytes : List ℕ) (a b : Option RequestHead) → IsReading bytes a → IsReading bytes b → a ≡ b
one_reading bytes None None p q = refl
one_reading bytes None (Some h) p q = absurd (p h q)
one_reading bytes (Some h) None p q = absurd (q h p)
one_reading bytes (Some h) (Some k) p q = ap Some (request_unique bytes h k [] [] p.reads q.reads).0

-- a head is judged in one way
pub one_judgement : (bytes : List ℕ) (a b : Result HeadParts Refusal) → IsJudged bytes a → IsJudged bytes b → a ≡ b
one_judgement bytes a b p q = p.2 ∙ ap judgement (one_reading bytes p.0 q.0 p.1 q.1) ∙ sym q.2

-- a stream that goes on begins with the same head
pub head_grows : (bytes more : List ℕ) (size : ℕ) (result : Result HeadParts Refusal) → BeginsWithHead bytes size result → BeginsWithHead (bytes ++ more) size result
head_grows bytes more size result head = record {
  ends = size_grows bytes more size head.ends;
  short = head.short;
  judged = subst (λ all. IsJudged all result) (sym (take-append-le size bytes more (size_fits bytes size head.ends))) head.judged;
}

-- a stream begins with one head
pub one_head : (bytes : List ℕ) (m n : ℕ) (a b : Result HeadParts Refusal) → BeginsWithHead bytes m a → BeginsWithHead bytes n b → (m ≡ n) × (a ≡ b)
one_head bytes m n a b first second =
    let sizes : m ≡ n = one_size bytes m n first.ends second.ends in
    (sizes, one_judgement (take n bytes) a b (subst (λ k. IsJudged (take k bytes) a) sizes first.judged) second.judged)

-- with a head at its front the stream does not end in one, nor is that head too long
pub head_ends : (bytes : List ℕ) (size : ℕ) (result : Result HeadParts Refusal) → BeginsWithHead bytes size result → ¬ (EndsInHead bytes)
head_ends bytes size result head ends = ends.1 head.ends.at head.ends.mark

-- with a head at its front the stream has no head that is too long
pub head_short : (bytes : List ℕ) (size : ℕ) (result : Result HeadParts Refusal) → BeginsWithHead bytes size result → ¬ (IsHeadTooLong bytes)
head_short bytes size result head long = no_mark_short bytes 16384 size head.ends head.short long.1

-- a head that is too long stays so
pub too_long_grows : (bytes more : List ℕ) → IsHeadTooLong bytes → IsHeadTooLong (bytes ++ more)
too_long_grows bytes more long =
    (omega (arith, long.0, length-append bytes more), subst HasNoMark (sym (take-append-le 16384 bytes more long.0)) long.1)

-- a request at the front stays there, and what follows goes behind the rest
pub request_grows : (last : Bool) (bytes more : List ℕ) (request : RequestParts) (rest : List ℕ) →
    BeginsWithRequest last bytes request rest → BeginsWithRequest last (bytes ++ more) request (rest ++ more)
request_grows last bytes more request rest found =
    let fits : found.size ≤ length bytes = size_fits bytes found.size found.head.ends in
    let room : found.parts.length ≤ length (drop found.size bytes) = omega (arith, length-drop found.size bytes, found.whole) in
    let body : take found.parts.length (drop found.size (bytes ++ more)) ≡ take found.parts.length (drop found.size bytes) =
    ap (take found.parts.length) (drop-append-le found.size bytes more fits) ∙ take-append-le found.parts.length (drop found.size bytes) more room in
    record {
      size = found.size;
      parts = found.parts;
      head = head_grows bytes more found.size (Ok found.parts) found.head;
      whole = omega (arith, found.whole, length-append bytes more);
      is = found.is ∙ ap (request_of last found.parts) (sym body);
      behind = ap (λ xs. xs ++ more) found.behind ∙ sym (drop-append-le (found.size + found.parts.length) bytes more found.whole);
    }

-- an event at the front stays there, and what follows goes behind the rest
pub event_grows : (last : Bool) (bytes more : List ℕ) (event : Event) (rest : List ℕ) → BeginsWith last bytes event rest → BeginsWith last (bytes ++ more) event (rest ++ more)
event_grows last bytes more (Whole request) rest found = request_grows last bytes more request rest found
event_grows last bytes more (Refused refusal) rest (inl found) = inl (too_long_grows bytes more found.0, found.1)
event_grows last bytes more (Refused refusal) rest (inr found) = inr (found.0, head_grows bytes more found.0 (Err refusal) found.1)

-- a head at the front, and a stream that holds no event, leave a body that has not ended
waits_for_body : (bytes : List ℕ) (size : ℕ) (result : Result HeadParts Refusal) → BeginsWithHead bytes size result → HasNoEvent bytes → EndsInBody bytes
waits_for_body bytes size result head (inl none) = absurd (head_ends bytes size result head none)
waits_for_body bytes size result head (inr none) = none

-- where an event comes next, the stream is not without one
pub no_event_clash : (last : Bool) (bytes : List ℕ) (event : Event) (rest : List ℕ) → BeginsWith last bytes event rest → ¬ (HasNoEvent bytes)
no_event_clash last bytes (Whole request) rest found none =
    let wait = waits_for_body bytes found.size (Ok found.parts) found.head none in
    let same = one_head bytes found.size wait.0 (Ok found.parts) (Ok wait.1) found.head wait.2 in
    let parts : found.parts ≡ wait.1 = cc (same.1) in
    let lengths : found.parts.length ≡ wait.1.length = ap (λ p. p.length) parts in
    omega (arith, same.0, lengths, wait.3, found.whole)
no_event_clash last bytes (Refused refusal) rest (inl found) (inl none) = omega (arith, found.0.0, none.0)
no_event_clash last bytes (Refused refusal) rest (inl found) (inr none) = head_short bytes none.0 (Ok none.1) none.2 found.0
no_event_clash last bytes (Refused refusal) rest (inr found) none =
    let wait = waits_for_body bytes found.0 (Err refusal) found.1 none in
    let same = one_head bytes found.0 wait.0 (Err refusal) (Ok wait.1) found.1 wait.2 in
    cc (same.1)

-- one request at most comes next
pub one_request : (last : Bool) (bytes : List ℕ) (a b : RequestParts) (p q : List ℕ) → BeginsWithRequest last bytes a p → BeginsWithRequest last bytes b q → (a ≡ b) × (p ≡ q)
one_request last bytes a b p q first second =
    let same = one_head bytes first.size second.size (Ok first.parts) (Ok second.parts) first.head second.head in
    let parts : first.parts ≡ second.parts = cc (same.1) in
    let bodies : take first.parts.length (drop first.size bytes) ≡ take second.parts.length (drop second.size bytes) = cc (same.0, parts) in (
      first.is ∙ ap (λ x. request_of last x (take x.length (drop first.size bytes))) parts ∙ ap (λ n. request_of last second.parts (take second.parts.length (drop n bytes))) same.0 ∙ sym second.is,
      first.behind ∙ ap (λ x. drop (first.size + x.length) bytes) parts ∙ ap (λ n. drop (n + second.parts.length) bytes) same.0 ∙ sym second.behind,
    )

one_refusal : (bytes : List ℕ) (a b : Refusal) → BeginsRefused bytes a → BeginsRefused bytes b → a ≡ b
one_refusal bytes a b (inl p) (inl q) = p.1 ∙ sym q.1
one_refusal bytes a b (inl p) (inr q) = absurd (head_short bytes q.0 (Err b) q.1 p.0)
one_refusal bytes a b (inr p) (inl q) = absurd (head_short bytes p.0 (Err a) p.1 q.0)
one_refusal bytes a b (inr p) (inr q) = let same = one_head bytes p.0 q.0 (Err a) (Err b) p.1 q.1 in cc (same.1)

no_request_refused : (last : Bool) (bytes : List ℕ) (request : RequestParts) (rest : List ℕ) (refusal : Refusal) → BeginsWithRequest last bytes request rest → ¬ (BeginsRefused bytes refusal)
no_request_refused last bytes request rest refusal found (inl p) = head_short bytes found.size (Ok found.parts) found.head p.0
no_request_refused last bytes request rest refusal found (inr p) =
    let same = one_head bytes found.size p.0 (Ok found.parts) (Err refusal) found.head p.1 in
    cc (same.1)

-- one event at most comes next
pub one_event : (last : Bool) (bytes : List ℕ) (a b : Event) (p q : List ℕ) → BeginsWith last bytes a p → BeginsWith last bytes b q → a ≡ b
one_event last bytes (Whole a) (Whole b) p q first second = ap Whole (one_request last bytes a b p q first second).0
one_event last bytes (Whole a) (Refused b) p q first second = absurd (no_request_refused last bytes a p b first second)
one_event last bytes (Refused a) (Whole b) p q first second = absurd (no_request_refused last bytes b q a second first)
one_event last bytes (Refused a) (Refused b) p q first second = ap Refused (one_refusal bytes a b first second)

-- the rests of one event, where it does not close
one_rest : (last : Bool) (bytes : List ℕ) (event : Event) (p q : List ℕ) → BeginsWith last bytes event p → BeginsWith last bytes event q → closes event ≡ false → p ≡ q
one_rest last bytes (Whole a) p q first second stays = (one_request last bytes a a p q first second).1
one_rest last bytes (Refused a) p q first second stays = cc

abbrev Continues : List Event → List Event → Type 0
Continues few all = (others : List Event) × (all ≡ few ++ others)

-- the events behind one event that both streams bring
go_on : (left : ℕ) (b : Bool) (rest more other : List ℕ) (few all : List Event) → (b ≡ false → rest ++ more ≡ other) →
    (AreEvents left rest few → AreEvents left (rest ++ more) all → Continues few all) →
    MatchBool b (few ≡ []) (AreEvents left rest few) → MatchBool b (all ≡ []) (AreEvents left other all) → Continues few all
go_on left true rest more other few all same later p q = (all, ap (λ xs. xs ++ all) (sym p))
go_on left false rest more other few all same later p q = later p (subst (λ bytes. AreEvents left bytes all) (sym (same refl)) q)

cons_continues : (e f : Event) (few all : List Event) → e ≡ f → Continues few all → Continues (e ∷ few) (f ∷ all)
cons_continues e f few all same later = (later.0, cc (same, later.1))

-- all events of a stream continue those of its front
pub events_of_prefix : (left : ℕ) (front more : List ℕ) (few all : List Event) → AreEvents left front few → AreEvents left (front ++ more) all → (others : List Event) × (all ≡ few ++ others)
events_of_prefix left front more [] all p q = (all, refl)
events_of_prefix left front more (e ∷ few) [] p q = absurd (no_event_clash (left == 1) (front ++ more) e (p.0 ++ more) (event_grows (left == 1) front more e p.0 p.1) q)
events_of_prefix left front more (e ∷ few) (f ∷ all) p q =
    let grown : BeginsWith (left == 1) (front ++ more) e (p.0 ++ more) = event_grows (left == 1) front more e p.0 p.1 in
    let same : e ≡ f = one_event (left == 1) (front ++ more) e f (p.0 ++ more) q.0 grown q.1 in
    let other : BeginsWith (left == 1) (front ++ more) e q.0 = subst (λ x. BeginsWith (left == 1) (front ++ more) x q.0) (sym same) q.1 in
    let behind : MatchBool (closes e) (all ≡ []) (AreEvents (left - 1) q.0 all) = subst (λ x. MatchBool (closes x) (all ≡ []) (AreEvents (left - 1) q.0 all)) (sym same) q.2 in
    cons_continues e f few all same
    (go_on (left - 1) (closes e) p.0 more q.0 few all
    (one_rest (left == 1) (front ++ more) e (p.0 ++ more) q.0 grown other)
    (events_of_prefix (left - 1) p.0 more few all)
    p.2 behind)

-- the events behind one event that is the first of a stream
first_go_on : (left : ℕ) (b : Bool) (rest other : List ℕ) (few all : List Event) → (b ≡ false → rest ≡ other) → (AreFirstEvents left rest few → AreEvents left rest all → Continues few all)
    → MatchBool b (few ≡ []) (AreFirstEvents left rest few) → MatchBool b (all ≡ []) (AreEvents left other all) → Continues few all
first_go_on left true rest other few all same later p q = (all, ap (λ xs. xs ++ all) (sym p))
first_go_on left false rest other few all same later p q = later p (subst (λ bytes. AreEvents left bytes all) (sym (same refl)) q)

-- all events of a stream continue its first ones
pub events_of_first : (left : ℕ) (bytes : List ℕ) (few all : List Event) → AreFirstEvents left bytes few → AreEvents left bytes all → (others : List Event) × (all ≡ few ++ others)
events_of_first left bytes [] all p q = (all, refl)
events_of_first left bytes (e ∷ few) [] p q = absurd (no_event_clash (left == 1) bytes e p.0 p.1 q)
events_of_first left bytes (e ∷ few) (f ∷ all) p q =
    let same : e ≡ f = one_event (left == 1) bytes e f p.0 q.0 p.1 q.1 in
    let other : BeginsWith (left == 1) bytes e q.0 = subst (λ x. BeginsWith (left == 1) bytes x q.0) (sym same) q.1 in
    let behind : MatchBool (closes e) (all ≡ []) (AreEvents (left - 1) q.0 all) = subst (λ x. MatchBool (closes x) (all ≡ []) (AreEvents (left - 1) q.0 all)) (sym same) q.2 in
    cons_continues e f few all same
    (first_go_on (left - 1) (closes e) p.0 q.0 few all
    (one_rest (left == 1) bytes e p.0 q.0 p.1 other)
    (events_of_first (left - 1) p.0 few all)
    p.2 behind)
