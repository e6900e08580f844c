-- What the command printed, and the connections that it served.
use Rattle.std.proofs.Common.{◌≡◌, ℕ, ◌<◌, ◌≤◌, ◌⊎◌, inl, inr, true, false, List, [], ◌∷◌, ◌++◌, length, take, flat_map, codes, Option, refl, sym, ap, ◌∙◌, append-nil, arith}
use Rattle.std.proofs.lemmas.List.{length-append, take-append-le}
use Rattle.ml_io.specs.Calls.{Passed, LinkEnds}
use Rattle.ml_io.specs.declared.link.Link.{Link}
use Rattle.ml_ratio.specs.Count.{one_more}
use Rattle.ml_io.specs.Causes.{Appends, AppendsPart, IsCut}
use Rattle.ml_io.specs.Takes.{HasRunOut}
use Rattle.ml_watch.specs.Hearing.{Hearing}
use Rattle.ml_http.specs.Link.{LinkState}
use Rattle.ml_http.specs.Step.{LinkAnswer}
use Rattle.ml_serve.specs.Session.{Visit, HasServed}
use Rattle.ml_serve.specs.Visit.{IsVisit}
use Rattle.ml_serve.specs.Headline.{Headline}
use Rattle.ml_serve.specs.Printed.{served_line, AreDone, AreOfFault, AreFirst, IsFaultSaid, DoorSaid, IsCalm, HasFailed, IsEndOfServing}
use Rattle.ml_serve.specs.declared.serve_end.ServeEnd.{ServeEnd}
use Rattle.ml_serve.specs.declared.serve_end.ServeEnd.TheVariants.{Done, WriteFault, DoorFault}
use Rattle.ml_serve.proofs.Called.{PutTwice, NothingHeard, HeardTwice}
use Rattle.ml_serve.proofs.VisitLemmas.{hears_follow}

appends_so : (w w' : Option (List ℕ)) (p q : List ℕ) → p ≡ q → Appends w w' p → Appends w w' q
appends_so w w' p q same wrote = rw (sym same) wrote

one_line : (a : List ℕ) → flat_map (λ line. line) (a ∷ []) ≡ a
one_line a = append-nil a

two_lines : (a b : List ℕ) → flat_map (λ line. line) (a ∷ b ∷ []) ≡ a ++ b
two_lines a b = ap (λ t. a ++ t) (append-nil b)

cut_first : (w w' : Option (List ℕ)) (a : List ℕ) → AppendsPart w w' a → IsCut w w' (a ∷ [])
cut_first w w' a part = record { front = []; last = a; parts = refl; size = part.0; short = part.1; wrote = part.2 }

module _ (twice : PutTwice ℕ) where
  cut_second : (w w' w'' : Option (List ℕ)) (a b : List ℕ) → Appends w w' a → AppendsPart w' w'' b → IsCut w w'' (a ∷ b ∷ [])
  cut_second w w' w'' a b first part = record {
    front = a ∷ [];
    last = b;
    parts = refl;
    size = part.0;
    short = part.1;
    wrote = appends_so w w'' (a ++ take part.0 b) (flat_map (λ text. text) (a ∷ []) ++ take part.0 b) (ap (λ t. t ++ take part.0 b) (sym (one_line a))) (twice w w' w'' a (take part.0 b) first part.2);
  }

  -- all lines were written
  pub end_done : {X : Type 0} (count n : ℕ) (door : DoorSaid X) (w w' w'' : Option (List ℕ)) → IsCalm door → n ≤ count → (n ≡ count) ⊎ HasRunOut door.coming_after →
      Appends w w' (codes "ready\n") → Appends w' w'' (served_line n) → IsEndOfServing count n door w w'' Done
  end_done count n door w w' w'' calm few enough ready line = (
    codes "ready\n" ∷ served_line n ∷ [],
    record { few = few; enough = enough; due = refl },
    calm,
    appends_so w w'' (codes "ready\n" ++ served_line n) (flat_map (λ line. line) (codes "ready\n" ∷ served_line n ∷ []))
        (sym (two_lines (codes "ready\n") (served_line n))) (twice w w' w'' (codes "ready\n") (served_line n) ready line),
  )

  -- the output failed in the last line
  pub end_cut : {X : Type 0} (count n : ℕ) (door : DoorSaid X) (w w' w'' : Option (List ℕ)) → IsCalm door → n ≤ count → (n ≡ count) ⊎ HasRunOut door.coming_after →
      Appends w w' (codes "ready\n") → AppendsPart w' w'' (served_line n) → IsEndOfServing count n door w w'' WriteFault
  end_cut count n door w w' w'' calm few enough ready part =
      (codes "ready\n" ∷ served_line n ∷ [], inl (inl (record { few = few; enough = enough; due = refl }), calm), cut_second w w' w'' (codes "ready\n") (served_line n) ready part)

  -- the door failed while it listened
  pub end_fault_later : {X : Type 0} (count n : ℕ) (door : DoorSaid X) (w w' w'' : Option (List ℕ)) (status : ServeEnd) →
      door.listens ≡ true → door.faults_after ≡ one_more door.faults → n < count → Appends w w' (codes "ready\n") → IsFaultSaid w' w'' status → IsEndOfServing count n door w w'' status
  end_fault_later count n door w w' w'' Done listens failed few ready said = absurd said
  end_fault_later count n door w w' w'' DoorFault listens failed few ready said =
      (codes "ready\n" ∷ codes "door fault\n" ∷ [], (rw listens (few, refl), failed), twice w w' w'' (codes "ready\n") (codes "door fault\n") ready said)
  end_fault_later count n door w w' w'' WriteFault listens failed few ready said =
      (codes "ready\n" ∷ codes "door fault\n" ∷ [], inr (rw listens (few, refl), failed), cut_second w w' w'' (codes "ready\n") (codes "door fault\n") ready said)

-- the output failed in the first line
pub end_first : {X : Type 0} (count : ℕ) (door : DoorSaid X) (w w' : Option (List ℕ)) → IsCalm door → AppendsPart w w' (codes "ready\n") → IsEndOfServing count 0 door w w' WriteFault
end_first count door w w' calm part = (codes "ready\n" ∷ [], inl (inr (refl, refl), calm), cut_first w w' (codes "ready\n") part)

-- the door failed to listen
pub end_fault : {X : Type 0} (count : ℕ) (door : DoorSaid X) (w w' : Option (List ℕ)) (status : ServeEnd) →
    door.listens ≡ false → door.faults_after ≡ one_more door.faults → IsFaultSaid w w' status → IsEndOfServing count 0 door w w' status
end_fault count door w w' Done deaf failed said = absurd said
end_fault count door w w' DoorFault deaf failed said = (codes "door fault\n" ∷ [], (rw deaf (refl, refl), failed), said)
end_fault count door w w' WriteFault deaf failed said = (codes "door fault\n" ∷ [], inr (rw deaf (refl, refl), failed), cut_first w w' (codes "door fault\n") said)

-- connections were served behind a call that left those to come and those done as they were
pub served_from : {S I O : Type 0} (one : S → Visit I O LinkAnswer → S → Type 0) (n : ℕ) (door more : Passed I O) (old new : S) →
    more.coming ≡ door.coming → more.coming_after ≡ door.coming_after → more.done ≡ door.done → more.done_after ≡ door.done_after → HasServed one n more old new → HasServed one n door old new
served_from one n door more old new coming coming_after done done_after served = record {
  visits = served.visits;
  number = served.number;
  came = rw (sym coming, sym coming_after) served.came;
  gone = rw (sym done, sym done_after) served.gone;
  states = served.states;
}

-- the connections served, and the end of the command
pub headline_of : {W I O : Type 0} (hearing : W → Hearing) → NothingHeard hearing → HeardTwice hearing →
    (ends : LinkEnds I O) (old new : LinkState W) (door : Passed I O) (count n : ℕ) (said : DoorSaid (Link I O)) (w w' : Option (List ℕ)) (status : ServeEnd) →
    HasServed (IsVisit hearing ends) n door old new → IsEndOfServing count n said w w' status →
    (visits : List (Visit I O LinkAnswer)) × Headline hearing ends old new door visits × IsEndOfServing count (length visits) said w w' status
headline_of hearing none twice ends old new door count n said w w' status served end = (
  served.visits,
  record { came = served.came; gone = served.gone; replies = served.states; hears = hears_follow hearing none twice ends old new served.visits served.states },
  rw served.number end,
)
