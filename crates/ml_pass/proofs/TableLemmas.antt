-- The lines of a table, one after the other: the ids that are known, and the labels read so far.
use Rattle.std.proofs.Common.{◌≡◌, ◌≢◌, ℕ, ◌+◌, ◌<◌, ◌≤◌, List, [], ◌∷◌, ◌++◌, length, get_or, Option, Some, None, Bool}
use Rattle.std.proofs.Common.{true, false, cond, Bor, arith, refl, ap, ◌∙◌, sym, subst, inl, inr, length-append, Ok, Err}
use Rattle.std.specs.Prelude.{MatchOption, ◌==◌, Result, IfErr}
use Rattle.std.specs.BTreeMap.{BTreeMap, get_by}
use Rattle.std.specs.Cmp.Lexicographic.{slice_cmp}
use Rattle.std.specs.Map.{update}
use Rattle.std.specs.Option.{is_some}
use Rattle.std.specs.Result.{IsErrAnd}
use Rattle.std.specs.Ordering.{nat_cmp}
use Rattle.std.specs.Str.{bytes_eq}
use Rattle.std.specs.Str.Lines.{lines}
use Rattle.std.proofs.Math.ListN.{get_or-append}
use Rattle.std.proofs.Math.Seq.{get_or-append_seam}
use Rattle.std.proofs.lemmas.Bool.{cases_lt}
use Rattle.std.proofs.lemmas.Bool.Decides.{nat_tests}
use Rattle.std.proofs.lemmas.List.{append_assoc, get_or_default, get_or_push}
use Rattle.std.proofs.lemmas.Slice.Eq.{bytes_eq-Decides}
use Rattle.ml_ratio.specs.Lines.{written_lines, entry, entries}
use Rattle.ml_cone.specs.declared.label.Label.{Label}
use Rattle.ml_pass.specs.Row.{ReadsRow}
use Rattle.ml_pass.specs.Table.{IsKnownId, AreFirst, IsTable, IsBadLine, IsFaultAfter, IsAddFault, IsTableFault}
use Rattle.ml_cone.specs.Places.{FindsPlaces, IsNoId, IsPlaceOf}
use Rattle.ml_pass.specs.declared.fault.TableFault.{TableFault}
use Rattle.ml_pass.specs.declared.fault.TableFault.TheVariants.{BadLine, SameId, Full, Memory}

-- where the map has a place for the id, a label has the id
pub known_from : (o : Option ℕ) (labels : List Label) (id : List ℕ) → MatchOption o (IsNoId labels id) (IsPlaceOf labels id) → is_some o ≡ true → IsKnownId labels id
known_from None labels id h e = absurd (let f : false ≡ true = e in cc)
known_from (Some j) labels id h e = (j, h)

-- where the map has no place for the id, no label has it
pub new_from : (o : Option ℕ) (labels : List Label) (id : List ℕ) → MatchOption o (IsNoId labels id) (IsPlaceOf labels id) → is_some o ≡ false → IsNoId labels id
new_from None labels id h e = h
new_from (Some j) labels id h e = absurd (let f : true ≡ false = e in cc)

module _ (labels : List Label) (label : Label) where
  has_push : (id : List ℕ) (j : ℕ) → IsPlaceOf labels id j → IsPlaceOf (labels ++ label ∷ []) id j
  has_push id j has =
      let n = length-append labels (label ∷ []) in
      (omega arith, λ d. ap (λ (l : Label). l.order.id) (get_or-append labels (label ∷ []) d j has.0) ∙ has.1 d)

  new_push : (id : List ℕ) → IsNoId labels id → label.order.id ≢ id → IsNoId (labels ++ label ∷ []) id
  new_push id new other j has =
      elim (cases_lt j (length labels)) [
        | inl less ↦ new j (less, λ d. ap (λ (l : Label). l.order.id) (sym (get_or-append labels (label ∷ []) d j less)) ∙ has.1 d)
        | inr more ↦
            let n = length-append labels (label ∷ []) in
            let same : length labels ≡ j = omega arith in
            other (ap (λ (l : Label). l.order.id) (sym (get_or_push labels label label j same)) ∙ has.1 label)
      ]

  has_last : (j : ℕ) → j ≡ length labels → IsPlaceOf (labels ++ label ∷ []) label.order.id j
  has_last j e =
      let n = length-append labels (label ∷ []) in
      (omega arith, λ d. ap (λ (l : Label). l.order.id) (get_or_push labels label d j (sym e)))

  -- the map with the new id
  finds_other : (o : Option ℕ) (id : List ℕ) → label.order.id ≢ id → MatchOption o (IsNoId labels id) (IsPlaceOf labels id) →
      MatchOption o (IsNoId (labels ++ label ∷ []) id) (IsPlaceOf (labels ++ label ∷ []) id)
  finds_other None id other h = new_push id h other
  finds_other (Some j) id other h = has_push id j h

  -- with the new label's id and place put in, the map finds all labels up to that one
  pub finds_more : (old new : BTreeMap (Bor (List ℕ)) ℕ) (place : ℕ) → place ≡ length labels → FindsPlaces labels old →
      ((cs : List ℕ) → get_by (λ k. slice_cmp nat_cmp cs k.now) new ≡ update bytes_eq (λ ds. get_by (λ k. slice_cmp nat_cmp ds k.now) old) label.order.id (Some place) cs) →
      FindsPlaces (labels ++ label ∷ []) new
  finds_more old new place at finds updates id = rw (updates id) (by_test (bytes_eq label.order.id id) refl)
    where
      by_test : (b : Bool) → bytes_eq label.order.id id ≡ b → MatchOption (cond (bytes_eq label.order.id id) (Some place)
          (get_by (λ k. slice_cmp nat_cmp id k.now) old)) (IsNoId (labels ++ label ∷ []) id) (IsPlaceOf (labels ++ label ∷ []) id)
      by_test true e =
          let same : label.order.id ≡ id = (bytes_eq-Decides label.order.id id).0 e in
          rw e (subst (λ (t : List ℕ). IsPlaceOf (labels ++ label ∷ []) t place) same (has_last place at))
      by_test false e =
          let other : label.order.id ≢ id = λ same. (let yes : bytes_eq label.order.id id ≡ true = (bytes_eq-Decides label.order.id id).1 same in let no : true ≡ false = sym yes ∙ e in absurd (cc)) in
          rw e (finds_other (get_by (λ k. slice_cmp nat_cmp id k.now) old) id other (finds id))

-- after `count` lines, all but the lines of `rest`, the labels of the lines read so far
pub record TableSoFar (bytes rest : List ℕ) (count : ℕ) (labels : List Label) (ids : BTreeMap (Bor (List ℕ)) ℕ) : Type 0 where
  pub first : AreFirst bytes labels
  pub finds : FindsPlaces labels ids
  pub done : List (ℕ × List ℕ)
  pub split : entries bytes ≡ done ++ written_lines (count + 1) (lines rest)
  pub one_each : length labels ≡ length done
  pub low : count + length rest ≤ length bytes

-- an empty map finds the places of no labels
pub no_ids : (ids : BTreeMap (Bor (List ℕ)) ℕ) → ids.entries ≡ [] → FindsPlaces [] ids
no_ids ids e id = rw e (λ j has. (let less : j < 0 = has.0 in absurd (omega arith)))

-- before the first line no label is read, and all lines of the table are to come
pub so_far_none : (bytes : List ℕ) (ids : BTreeMap (Bor (List ℕ)) ℕ) → ids.entries ≡ [] → TableSoFar bytes bytes 0 [] ids
so_far_none bytes ids e = record {
  first = record { few = omega arith; lines_enough = omega arith; written = λ i lt d. absurd (omega arith); differ = λ i j less lt d. absurd (omega arith) };
  finds = no_ids ids e;
  done = [];
  split = refl;
  one_each = refl;
  low = omega arith;
}

module _ (bytes rest line after : List ℕ) (count : ℕ) (labels : List Label) (ids : BTreeMap (Bor (List ℕ)) ℕ)
    (next : lines rest ≡ line ∷ lines after) (shorter : length after < length rest) (so_far : TableSoFar bytes rest count labels ids) where
  -- an empty line is passed, and the labels read so far stay
  pub so_far_empty : line ≡ [] → TableSoFar bytes after (count + 1) labels ids
  so_far_empty none = record {
    first = so_far.first;
    finds = so_far.finds;
    done = so_far.done;
    split = so_far.split ∙ ap (λ (w : List (ℕ × List ℕ)). so_far.done ++ w) (ap (written_lines (count + 1)) next ∙ rw none refl);
    one_each = so_far.one_each;
    low = omega arith;
  }

  module _ (some : 0 < length line) where
    split_here : entries bytes ≡ so_far.done ++ (count + 1, line) ∷ written_lines (count + 1 + 1) (lines after)
    split_here =
        let test : (length line == 0) ≡ false = grind (arith, nat_tests) in
        so_far.split ∙ ap (λ (w : List (ℕ × List ℕ)). so_far.done ++ w) (ap (written_lines (count + 1)) next ∙ rw test refl)

    -- the line at hand, with its number, is the one behind those that write the labels so far
    pub entry_here : entry bytes (length labels) ≡ (count + 1, line)
    entry_here =
        ap (λ (w : List (ℕ × List ℕ)). get_or w (length labels) (0, [])) split_here
        ∙ ap (λ (n : ℕ). get_or (so_far.done ++ (count + 1, line) ∷ written_lines (count + 1 + 1) (lines after)) n (0, [])) so_far.one_each
        ∙ get_or-append_seam so_far.done (count + 1, line) (written_lines (count + 1 + 1) (lines after)) (0, [])

    -- so the table has more lines that are not empty than labels were read
    pub is_there : length labels < length (entries bytes)
    is_there =
        let n = ap length split_here ∙ length-append so_far.done ((count + 1, line) ∷ written_lines (count + 1 + 1) (lines after)) in
        let k = so_far.one_each in
        omega arith

    -- a line that writes a label with a new id adds that label, where there are 32,768 at most
    pub so_far_more : (label : Label) (new : BTreeMap (Bor (List ℕ)) ℕ) → length (labels ++ label ∷ []) ≤ 32768 → ReadsRow line (length labels) label →
        IsNoId labels label.order.id → FindsPlaces (labels ++ label ∷ []) new → TableSoFar bytes after (count + 1) (labels ++ label ∷ []) new
    so_far_more label new few row new_id finds =
        let n : length (labels ++ label ∷ []) ≡ length labels + 1 = length-append labels (label ∷ []) in
        record {
          first = record {
            few = few;
            lines_enough = let k = is_there in omega arith;
            written = λ i lt d.
                elim (cases_lt i (length labels)) [
                  | inl less ↦ rw (get_or-append labels (label ∷ []) d i less) (so_far.first.written i less d)
                  | inr more ↦
                      let same : length labels ≡ i = omega arith in
                      rw (get_or_push labels label d i same) (rw same at (rw (sym (ap (λ (p : ℕ × List ℕ). p.1) entry_here)) at row))
                ];
            differ = λ i j less lt d.
                elim (cases_lt j (length labels)) [
                  | inl inside ↦ rw (get_or-append labels (label ∷ []) d i (omega arith), get_or-append labels (label ∷ []) d j inside) (so_far.first.differ i j less inside d)
                  | inr more ↦
                      let same : length labels ≡ j = omega arith in
                      let below : i < length labels = omega arith in
                      rw (get_or-append labels (label ∷ []) d i below, get_or_push labels label d j same)
                      (λ e. new_id i (below, λ d2. ap (λ (l : Label). l.order.id) (get_or_default labels i d2 d below) ∙ e))
                ];
          };
          finds = finds;
          done = so_far.done ++ (count + 1, line) ∷ [];
          split = split_here ∙ sym (append_assoc so_far.done ((count + 1, line) ∷ []) (written_lines (count + 1 + 1) (lines after)));
          one_each = n ∙ omega (arith, so_far.one_each, length-append so_far.done ((count + 1, line) ∷ []));
          low = omega arith;
        }

    -- a line that writes no label is a bad line, under its number
    pub no_row_here : ((label : Label) → ¬ (ReadsRow line (length labels) label)) → IsBadLine bytes labels (count + 1)
    no_row_here none = record { numbered = ap (λ (p : ℕ × List ℕ). p.0) entry_here; no_row = λ label row. none label (rw (ap (λ (p : ℕ × List ℕ). p.1) entry_here) at row) }

    -- why the label of the line at hand is not added is what is wrong with that line
    pub add_fault : (label : Label) (fault : TableFault) → ReadsRow line (length labels) label → IsAddFault labels label (count + 1) fault → IsFaultAfter bytes labels fault
    add_fault label (BadLine k) row h = absurd h
    add_fault label (SameId k) row h =
        record { numbered = ap (λ (p : ℕ × List ℕ). p.0) entry_here ∙ sym h.0; label = label; row = rw (sym (ap (λ (p : ℕ × List ℕ). p.1) entry_here)) at row; known = h.1 }
    add_fault label Full row h = record { label = label; row = rw (sym (ap (λ (p : ℕ × List ℕ). p.1) entry_here)) at row; new = h.0; full = h.1 }
    add_fault label Memory row h = tt

    -- what is wrong with the line at hand is what is wrong with the table, as all lines before it write labels
    pub fault_here : (fault : TableFault) → IsFaultAfter bytes labels fault → IsTableFault bytes fault
    fault_here (BadLine k) h = (labels, so_far.first, is_there, h)
    fault_here (SameId k) h = (labels, so_far.first, is_there, h)
    fault_here Full h = (labels, so_far.first, is_there, h)
    fault_here Memory h = tt

-- where no line is left, the labels read are those of the table
pub so_far_all : (bytes rest : List ℕ) (count : ℕ) (labels : List Label) (ids : BTreeMap (Bor (List ℕ)) ℕ) → rest ≡ [] → TableSoFar bytes rest count labels ids → IsTable bytes labels
so_far_all bytes rest count labels ids none so_far =
    let same : entries bytes ≡ so_far.done ++ [] = so_far.split ∙ ap (λ (w : List (ℕ × List ℕ)). so_far.done ++ w) (ap (λ (r : List ℕ). written_lines (count + 1) (lines r)) none) in
    record { first = so_far.first; every_line = (let n = ap length same ∙ length-append so_far.done [] in let k = so_far.one_each in omega arith) }

-- a fault that is handed on
pub handed_on : {A : Type 0} (P : TableFault → Type 0) (r : Result A TableFault) (f : TableFault) → IsErrAnd r (λ e. e ≡ f) → P f → IfErr r P
handed_on P (Ok a) f h p = tt
handed_on P (Err e) f h p = rw h p
