-- A file of states, line by line.
use Rattle.std.proofs.Common.{◌≡◌, ◌≢◌, ℕ, ◌+◌, ◌-◌, ◌<◌, ◌≤◌, List, [], ◌∷◌, ◌++◌, length, get_or, take, Option, Some, None}
use Rattle.std.proofs.Common.{inl, inr, ◌⊎◌, refl, sym, ap, subst, ◌∙◌, arith, append_assoc, append-nil, length-append}
use Rattle.std.specs.Prelude.{◌==◌, Result, Ok, Err, IfErr}
use Rattle.std.specs.Result.{IsErrAnd}
use Rattle.std.proofs.Math.Seq.{get_or-append_seam, take-append_seam, take-append-add}
use Rattle.std.proofs.lemmas.List.Splits.{length-slice_split}
use Rattle.ml_ratio.specs.Lines.{parts}
use Rattle.ml_follow.specs.States.{ended_lines, unended, WriteUpTo, IsFaulty, AreStates, IsStatesFault}
use Rattle.ml_follow.specs.Reading.{IsTaken, IsLineFault, unfinished, IsReadTo}
use Rattle.ml_follow.specs.declared.fault.StateFault.{StateFault}
use Rattle.ml_follow.specs.declared.fault.StateFault.TheVariants.{BadState, Memory}
use Rattle.ml_follow.specs.declared.opened.Opened.{Opened}
use Rattle.ml_follow.specs.declared.state.State.{State}
use Rattle.ml_follow.proofs.ReadSoFar.{read_more, read_none}

-- after so many lines, all but those of `rest`
pub record FileSoFar (bytes rest : List ℕ) (number : ℕ) (states : List State) (last : Option Opened) : Type 0 where
  pub done : List (List ℕ)
  pub split : parts 10 bytes ≡ done ++ parts 10 rest
  pub many : length done ≡ number
  pub low : number + length rest ≤ length bytes
  pub read : IsReadTo done states last

some_part : (bytes : List ℕ) → 0 < length (parts 10 bytes)
some_part bytes = let n = length-slice_split (λ (byte : ℕ). byte == 10) bytes in omega arith

-- all but the last of two lists, of which the second is not empty
pub front_of : {X : Type 0} (done more : List X) → 0 < length more → take (length (done ++ more) - 1) (done ++ more) ≡ done ++ take (length more - 1) more
front_of done more some =
    let n = length-append done more in
    let e : length (done ++ more) - 1 ≡ length done + (length more - 1) = omega arith in
    ap (λ (k : ℕ). take k (done ++ more)) e ∙ take-append-add done more (length more - 1)

-- before the first line nothing is read, and the whole file is to come
pub file_start : (bytes : List ℕ) → FileSoFar bytes bytes 0 [] None
file_start bytes = record { done = []; split = refl; many = refl; low = omega arith; read = read_none }

module _ (bytes rest line after : List ℕ) (number : ℕ) (states : List State) (last : Option Opened) (next : parts 10 rest ≡ line ∷ parts 10 after)
    (shorter : length after < length rest) (so_far : FileSoFar bytes rest number states last) where
  split_here : parts 10 bytes ≡ so_far.done ++ line ∷ parts 10 after
  split_here = so_far.split ∙ ap (λ (ps : List (List ℕ)). so_far.done ++ ps) next

  -- with one more line taken, the lines up to it write what came of them, and the file goes on behind it
  pub file_more : (new : List State) (stands : Option Opened) → IsTaken line states last new stands → FileSoFar bytes after (number + 1) new stands
  file_more new stands taken =
      let m = so_far.many in
      let l = so_far.low in
      let n = length-append so_far.done (line ∷ []) in
      record {
        done = so_far.done ++ line ∷ [];
        split = split_here ∙ sym (append_assoc so_far.done (line ∷ []) (parts 10 after));
        many = omega arith;
        low = omega arith;
        read = read_more so_far.done states last line new stands so_far.read taken;
      }

  -- the lines that end with LF
  lines_here : ended_lines bytes ≡ so_far.done ++ line ∷ take (length (parts 10 after) - 1) (parts 10 after)
  lines_here =
      let some = some_part after in
      let more : 0 < length (line ∷ parts 10 after) = omega arith in
      ap (λ (ps : List (List ℕ)). take (length ps - 1) ps) split_here
      ∙ front_of so_far.done (line ∷ parts 10 after) more
      ∙ ap (λ (ls : List (List ℕ)). so_far.done ++ ls) (front_of (line ∷ []) (parts 10 after) some)

  -- what is wrong with the next line is what is wrong with the file, under the number of that line
  pub file_fault : (fault : StateFault) → IsLineFault line last (number + 1) fault → IsStatesFault bytes fault
  file_fault Memory h = tt
  file_fault (BadState k) h =
      let m = so_far.many in
      let rest_lines = take (length (parts 10 after) - 1) (parts 10 after) in
      let front : take number (ended_lines bytes) ≡ so_far.done =
      ap (take number) lines_here ∙ ap (λ (n : ℕ). take n (so_far.done ++ line ∷ rest_lines)) (sym m) ∙ take-append_seam so_far.done (line ∷ rest_lines) in
      let here : get_or (ended_lines bytes) number [] ≡ line = ap (λ (ls : List (List ℕ)). get_or ls number []) lines_here
      ∙ ap (λ (n : ℕ). get_or (so_far.done ++ line ∷ rest_lines) n []) (sym m) ∙ get_or-append_seam so_far.done line rest_lines [] in
      let n = ap length lines_here ∙ length-append so_far.done (line ∷ rest_lines) in
      inl (record {
        place = number;
        number = h.0;
        is_there = omega arith;
        states = states;
        last = unfinished last;
        before = subst (λ (ls : List (List ℕ)). WriteUpTo ls states (unfinished last)) (sym front) so_far.read.written;
        faulty = subst (λ (l : List ℕ). IsFaulty l (unfinished last)) (sym here) h.1;
      })

module _ (bytes rest : List ℕ) (number : ℕ) (states : List State) (last : Option Opened) (end : parts 10 rest ≡ rest ∷ []) (so_far : FileSoFar bytes rest number states last) where
  split_end : parts 10 bytes ≡ so_far.done ++ rest ∷ []
  split_end = so_far.split ∙ ap (λ (ps : List (List ℕ)). so_far.done ++ ps) end

  all_lines : ended_lines bytes ≡ so_far.done
  all_lines = ap (λ (ps : List (List ℕ)). take (length ps - 1) ps) split_end ∙ front_of so_far.done (rest ∷ []) (omega arith) ∙ append-nil so_far.done

  rest_is : unended bytes ≡ rest
  rest_is =
      let n = length-append so_far.done (rest ∷ []) in
      let e : length (so_far.done ++ rest ∷ []) - 1 ≡ length so_far.done = omega arith in
      ap (λ (ps : List (List ℕ)). get_or ps (length ps - 1) []) split_end ∙ ap (λ (k : ℕ). get_or (so_far.done ++ rest ∷ []) k []) e ∙ get_or-append_seam so_far.done rest [] []

  written_all : (l : Option Opened) → IsReadTo so_far.done states l → WriteUpTo (ended_lines bytes) states (unfinished l)
  written_all l read = subst (λ (ls : List (List ℕ)). WriteUpTo ls states (unfinished l)) (sym all_lines) read.written

  -- a file that ends behind an LF and has no state unfinished writes the states that were read
  pub file_all : rest ≡ [] → last ≡ None → AreStates bytes states
  file_all none whole =
      let u : WriteUpTo so_far.done states None = subst (λ (l : Option Opened). WriteUpTo so_far.done states (unfinished l)) whole so_far.read.written in
      let same : so_far.done ≡ u.front = u.lines_are ∙ ap (λ (ls : List (List ℕ)). u.front ++ ls) u.begun ∙ append-nil u.front in
      record { ended = rest_is ∙ none; written = rw (all_lines ∙ same) u.whole }

  -- a file that ends without LF, or within a state, is cut short at the number behind that of its last whole line
  pub file_cut : ((rest ≢ []) ⊎ (last ≢ None)) → IsStatesFault bytes (BadState (number + 1))
  file_cut cut = inr (record {
    number = ap (λ (n : ℕ). n + 1) (sym so_far.many ∙ ap length (sym all_lines));
    states = states;
    last = unfinished last;
    before = written_all last so_far.read;
    cut = elim cut [
      | inl some ↦ inl (λ none. some (sym rest_is ∙ none))
      | inr stands ↦ inr (still last stands)
    ];
  })
    where
      still : (l : Option Opened) → l ≢ None → unfinished l ≢ None
      still None h e = h refl
      still (Some o) h e = absurd cc

-- a fault that is handed on
pub handed_on : {A : Type 0} (P : StateFault → Type 0) (r : Result A StateFault) (f : StateFault) → IsErrAnd r (λ e. e ≡ f) → P f → IfErr r P
handed_on P (Ok a) f h p = tt
handed_on P (Err e) f h p = rw h p
