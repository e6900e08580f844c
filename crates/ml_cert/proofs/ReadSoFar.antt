-- What the lines read so far give, and what they give at the end or at a fault.
use Rattle.std.proofs.Common.{◌≡◌, ℕ, ◌+◌, ◌<◌, List, [], ◌∷◌, ◌++◌, length, get_or, arith, sym, ap, ◌∙◌, inl, inr, false, eqb, suc, append_assoc}
use Rattle.std.proofs.Math.ListN.{get_or-append}
use Rattle.std.proofs.Math.Seq.{get_or-append_seam}
use Rattle.std.proofs.lemmas.Bool.{cases_lt}
use Rattle.std.proofs.lemmas.Bool.Decides.{nat_tests}
use Rattle.std.proofs.lemmas.List.{length-append, append-nil}
use Rattle.std.specs.Str.Lines.{lines}
use Rattle.ml_ratio.specs.Lines.{written_lines, no_entry, entry, entries}
use Rattle.ml_cone.specs.Slots.{no_slot}
use Rattle.ml_cone.specs.declared.label.Label.{Label}
use Rattle.ml_cone.specs.declared.slot.Slot.{Slot}
use Rattle.ml_cert.specs.SlotLine.{IsSlotLine}
use Rattle.ml_cert.specs.SlotsText.{AreGoodBefore, IsFaultyLine, AreWanting}

-- of `count` lines those that are not empty are `done`, and each writes its slot; the lines of `rest` follow
pub record ReadSoFar (labels : List Label) (bytes rest : List ℕ) (count : ℕ) (slots : List Slot) : Type 0 where
  pub done : List (ℕ × List ℕ)
  pub split : entries bytes ≡ done ++ written_lines (count + 1) (lines rest)
  pub counted : length (lines bytes) ≡ count + length (lines rest)
  pub one_slot : length slots ≡ length done
  pub written : (i : ℕ) → i < length done → IsSlotLine labels i (get_or done i no_entry).1 (get_or slots i no_slot)

-- a line that is not empty is counted and kept
written_some : (k : ℕ) (line : List ℕ) (more : List (List ℕ)) → 0 < length line → written_lines k (line ∷ more) ≡ (k, line) ∷ written_lines (k + 1) more
written_some k line more h = let t : eqb (length line) 0 ≡ false = grind (arith, nat_tests) in rw t

module _ (labels : List Label) (bytes rest : List ℕ) (count : ℕ) (slots : List Slot) (so_far : ReadSoFar labels bytes rest count slots) where
  good_before : (more : List (ℕ × List ℕ)) → entries bytes ≡ so_far.done ++ more → AreGoodBefore labels bytes (length so_far.done)
  good_before more e i h = (get_or slots i no_slot, rw (e, get_or-append so_far.done more no_entry i h) (so_far.written i h))

  module _ (line after : List ℕ) (next : lines rest ≡ line ∷ lines after) where
    counted_more : length (lines bytes) ≡ count + 1 + length (lines after)
    counted_more = let e : length (lines rest) ≡ suc (length (lines after)) = ap length next in let k = so_far.counted in omega arith

    split_more : 0 < length line → entries bytes ≡ so_far.done ++ ((count + 1, line) ∷ written_lines (count + 1 + 1) (lines after))
    split_more some = so_far.split ∙ ap (λ (xs : List (List ℕ)). so_far.done ++ written_lines (count + 1) xs) next
        ∙ ap (λ (xs : List (ℕ × List ℕ)). so_far.done ++ xs) (written_some (count + 1) line (lines after) some)

    -- a line that is not empty and writes the slot of the label due there adds that slot
    pub read_more : 0 < length line → (slot : Slot) → IsSlotLine labels (length slots) line slot → ReadSoFar labels bytes after (count + 1) (slots ++ slot ∷ [])
    read_more some slot writes =
        record {
          done = so_far.done ++ (count + 1, line) ∷ [];
          split = split_more some ∙ sym (append_assoc so_far.done ((count + 1, line) ∷ []) (written_lines (count + 1 + 1) (lines after)));
          counted = counted_more;
          one_slot = let e = so_far.one_slot in omega (arith, length-append slots (slot ∷ []), length-append so_far.done ((count + 1, line) ∷ []));
          written = λ i h. elim (cases_lt i (length so_far.done)) [
            | inl less ↦ let in' : i < length slots = (let e = so_far.one_slot in omega arith) in
                rw (get_or-append so_far.done ((count + 1, line) ∷ []) no_entry i less, get_or-append slots (slot ∷ []) no_slot i in') (so_far.written i less)
            | inr more ↦ let e = so_far.one_slot in let last : i ≡ length so_far.done = omega (arith, length-append so_far.done ((count + 1, line) ∷ [])) in
                written_last i last
          ];
        }
      where
        written_last : (i : ℕ) → i ≡ length so_far.done → IsSlotLine labels i (get_or (so_far.done ++ (count + 1, line) ∷ []) i no_entry).1 (get_or (slots ++ slot ∷ []) i no_slot)
        written_last i last =
            rw (last, get_or-append_seam so_far.done (count + 1, line) [] no_entry)
            (rw (sym so_far.one_slot, get_or-append_seam slots slot [] no_slot) writes)

    -- a line that is not empty and does not write the slot of the label due there is the first at fault
    pub faulty_line : 0 < length line → ((slot : Slot) → ¬ (IsSlotLine labels (length slots) line slot)) → IsFaultyLine labels bytes (count + 1)
    faulty_line some faulty =
        let e = split_more some in
        let more : List (ℕ × List ℕ) = (count + 1, line) ∷ written_lines (count + 1 + 1) (lines after) in
        let here : entry bytes (length so_far.done) ≡ (count + 1, line) = ap (λ (xs : List (ℕ × List ℕ)). get_or xs (length so_far.done) no_entry) e
        ∙ get_or-append_seam so_far.done (count + 1, line) (written_lines (count + 1 + 1) (lines after)) no_entry in
        record {
          place = length so_far.done;
          is_there = let l : length (entries bytes) ≡ length (so_far.done ++ more) = ap length e in omega (arith, length-append so_far.done more);
          number = ap (λ (x : ℕ × List ℕ). x.0) here;
          good = good_before more e;
          faulty = λ slot writes. faulty slot (rw so_far.one_slot (rw here at writes));
        }

  -- all lines are read
  module _ (over : rest ≡ []) where
    all_done : entries bytes ≡ so_far.done
    all_done = so_far.split ∙ ap (λ (xs : List ℕ). so_far.done ++ written_lines (count + 1) (lines xs)) over ∙ append-nil so_far.done

    -- where no line is left and labels still have no slot, lines are wanting
    pub wanting_lines : length slots < length labels → AreWanting labels bytes (count + 1)
    wanting_lines fewer =
        let e = all_done in
        let none : length (lines rest) ≡ 0 = ap (λ (xs : List ℕ). length (lines xs)) over in
        record {
          fewer = rw e (let k = so_far.one_slot in omega arith);
          good = good_here;
          number = let k = so_far.counted in omega arith;
        }
      where
        good_here : AreGoodBefore labels bytes (length (entries bytes))
        good_here i h = let lt : i < length so_far.done = rw all_done at h in good_before [] (all_done ∙ sym (append-nil so_far.done)) i lt
