-- The new slots that an edit leaves, without those that labels have already.
use Rattle.std.proofs.Common.{◌≡◌, ◌≢◌, ℕ, suc, ◌+◌, ◌<◌, ◌≤◌, List, [], ◌∷◌, ◌++◌, length, get_or, take, Contains, inl, inr, refl, sym, ap, ◌∙◌, subst, arith, length-append}
use Rattle.std.specs.Prelude.{◌==◌, not, Bool, true, false, MatchBool, if◌then◌else◌}
use Rattle.std.proofs.lemmas.Bool.{cases_eq}
use Rattle.std.proofs.lemmas.List.{get_or_default, get_or-map, get_or-take, length-map, length-take-le, map-append, take_more, take_all, take-map}
use Rattle.std.proofs.lemmas.List.Elements.{Contains-append_left, Contains-push, Contains-push_cases}
use Rattle.std.proofs.lemmas.List.Quantifiers.{all_pairs_push}
use Rattle.ml_cone.specs.declared.slot.Slot.{Slot}
use Rattle.ml_ratio.proofs.lemmas.Lists.{contains_map}
use Rattle.ml_store.specs.Rows.{numbers_in, AreDifferent, HaveOwnNumbers, IsFresh}
use Rattle.ml_store.specs.declared.moved.Moved.{Moved}
use Rattle.ml_store.specs.declared.row.Row.{Row}
use Rattle.ml_store.proofs.lemmas.Moved.{if_same, if_other}
use Rattle.ml_repair.specs.Moves.{numbers_of}
use Rattle.ml_repair.specs.Plan.{slot_for, moved_row, moved_rows, IsNewIn}
use Rattle.ml_repair.proofs.Moving.{slot_kept, slot_push}
use Rattle.ml_repair.proofs.OneRow.{one_number}

-- so far, of the first k new slots: those that are left, and that they make the same of the rows
pub record LastingOf (rows : List Row) (moved : List Moved) (k : ℕ) (out : List Moved) : Type 0 where
  pub few : length out ≤ k
  pub once : AreDifferent (numbers_of out)
  pub among : (n : ℕ) → Contains (numbers_of out) n → Contains (numbers_of (take k moved)) n
  pub new : (m : Moved) → Contains out m → IsNewIn rows m
  pub same : (r : Row) → Contains rows r → slot_for r.number r.slot out ≡ slot_for r.number r.slot (take k moved)

none_in : {A : Type 0} (x : A) → ¬ (Contains [] x)
none_in x there = let lt = there.1 in omega arith

-- before the first new slot none is left
pub lasting_none : (rows : List Row) (moved : List Moved) → LastingOf rows moved 0 []
lasting_none rows moved = record {
  few = omega arith;
  once = λ i j d less within. absurd (omega arith);
  among = λ n there. absurd (none_in n there);
  new = λ m there. absurd (none_in m there);
  same = λ r there. refl;
}

-- all rows with new slots are the same where each row is
rows_same : (rows : List Row) (out moved : List Moved) → ((r : Row) → Contains rows r → slot_for r.number r.slot out ≡ slot_for r.number r.slot moved) → moved_rows out rows ≡ moved_rows moved rows
rows_same [] out moved same = refl
rows_same (r ∷ rows) out moved same =
    ap (λ (s : Slot). (record r { slot = s }) ∷ moved_rows out rows) (same r (0, omega arith, refl))
    ∙ ap (λ rs. moved_row moved r ∷ rs) (rows_same rows out moved (λ s there. same s (suc there.0, (let lt : there.0 < length rows = there.1 in omega arith), there.2)))

numbers_push : (xs : List Moved) (m : Moved) → numbers_of (xs ++ m ∷ []) ≡ numbers_of xs ++ m.number ∷ []
numbers_push xs m = map-append (λ (x : Moved). x.number) xs (m ∷ [])

module _ (rows : List Row) (moved : List Moved) (k : ℕ) (m : Moved) (out : List Moved) (differ : AreDifferent (numbers_of moved))
    (lt : k < length moved) (read : get_or moved k m ≡ m) (so_far : LastingOf rows moved k out) where
  next : take (k + 1) moved ≡ take k moved ++ m ∷ []
  next = take_more moved k m lt ∙ ap (λ (x : Moved). take k moved ++ x ∷ []) read

  -- no new slot before is of the same number
  fresh : ¬ (Contains (numbers_of (take k moved)) m.number)
  fresh there =
      let many = length-map moved (λ (x : Moved). x.number) in
      let numbers = numbers_of moved in
      let there' : Contains (take k numbers) m.number = rw (take-map (λ (x : Moved). x.number) k moved) there in
      let j : ℕ = there'.0 in
      let long = length-take-le k numbers (omega arith) in
      let below : j < length (take k numbers) = there'.1 in
      differ j k 0 (omega arith) (omega arith)
      (sym (get_or-take k numbers j 0 (omega arith)) ∙ get_or_default (take k numbers) j 0 m.number below ∙ there'.2
      ∙ sym (get_or-map (λ (x : Moved). x.number) moved k m 0 lt ∙ ap (λ (x : Moved). x.number) read))

  unmoved : (j : ℕ) → j < length out → get_or (numbers_of out) j 0 ≢ m.number
  unmoved j in_out e =
      let many = length-map out (λ (x : Moved). x.number) in
      fresh (so_far.among m.number (j, omega arith, get_or_default (numbers_of out) j m.number 0 (omega arith) ∙ e))

  among_more : (n : ℕ) → Contains (numbers_of (take k moved)) n → Contains (numbers_of (take (k + 1) moved)) n
  among_more n there = rw (next, numbers_push (take k moved) m) (Contains-append_left (numbers_of (take k moved)) (m.number ∷ []) n there)

  -- one more new slot, which is another one than its row has, is left
  pub lasting_more : IsNewIn rows m → LastingOf rows moved (k + 1) (out ++ m ∷ [])
  lasting_more is_new =
      let many = length-append out (m ∷ []) in
      let few = so_far.few in
      let long = length-map out (λ (x : Moved). x.number) in
      record {
        few = omega arith;
        once = rw (numbers_push out m) (all_pairs_push (λ (a : ℕ) (b : ℕ). a ≢ b) (numbers_of out) m.number so_far.once
            (λ j d in_out e. unmoved j (omega arith) (get_or_default (numbers_of out) j 0 d in_out ∙ e)));
        among = λ n there. elim (Contains-push_cases (numbers_of out) m.number n (rw (numbers_push out m) at there)) [
          | inl old ↦ among_more n (so_far.among n old)
          | inr e ↦ rw (next, numbers_push (take k moved) m, ← e) (Contains-push (numbers_of (take k moved)) m.number)
        ];
        new = λ x there. elim (Contains-push_cases out m x there) [
          | inl old ↦ so_far.new x old
          | inr e ↦ subst (IsNewIn rows) e is_new
        ];
        same = λ r there. slot_push r.number r.slot out m ∙ ap (λ s. if m.number == r.number then m.slot else s) (so_far.same r there)
            ∙ sym (ap (slot_for r.number r.slot) next ∙ slot_push r.number r.slot (take k moved) m);
      }

  -- one more new slot, which its row has already, is dropped
  pub lasting_same : ((r : Row) → Contains rows r → r.number ≡ m.number → r.slot ≡ m.slot) → LastingOf rows moved (k + 1) out
  lasting_same own = record {
    few = (let few = so_far.few in omega arith);
    once = so_far.once;
    among = λ n there. among_more n (so_far.among n there);
    new = so_far.new;
    same = λ r there.
        let was = slot_for r.number r.slot (take k moved) in
        let more : slot_for r.number r.slot (take (k + 1) moved) ≡ (if m.number == r.number then m.slot else was) = ap (slot_for r.number r.slot) next ∙ slot_push r.number r.slot (take k moved) m in
        elim (cases_eq m.number r.number) [
          | inl e ↦
              slot_kept r.number r.slot out (λ j in_out f. unmoved j in_out (f ∙ sym e))
              ∙ own r there (sym e) ∙ sym (more ∙ if_same m.number r.number m.slot was e)
          | inr ne ↦ so_far.same r there ∙ sym (more ∙ if_other m.number r.number m.slot was ne)
        ];
  }

-- once all new slots are gone through, those that are left make the same of the rows as all of them
pub lasting_all : (rows : List Row) (moved out : List Moved) (k : ℕ) → length moved ≤ k → LastingOf rows moved k out → moved_rows out rows ≡ moved_rows moved rows
lasting_all rows moved out k le l = rows_same rows out moved (λ r there. l.same r there ∙ ap (slot_for r.number r.slot) (take_all k moved le))

-- what is found at the row of a new slot's number tells whether that slot is new
pub new_at : (rows : List Row) (m : Moved) (r : Row) (same : Bool) → HaveOwnNumbers rows → Contains rows r → r.number ≡ m.number → MatchBool same (r.slot ≡ m.slot) (r.slot ≢ m.slot) →
    MatchBool (not same) (IsNewIn rows m) ((t : Row) → Contains rows t → t.number ≡ m.number → t.slot ≡ m.slot)
new_at rows m r true differ there number slot = λ t t_there e. ap (λ (x : Row). x.slot) (one_number rows t r t_there there differ (e ∙ sym number)) ∙ slot
new_at rows m r false differ there number slot = (r, there, number, slot)

-- a number that no row has is that of no new slot
pub new_nowhere : (rows : List Row) (m : Moved) → IsFresh m.number rows → (t : Row) → Contains rows t → t.number ≡ m.number → t.slot ≡ m.slot
new_nowhere rows m fresh t there e = absurd (fresh (subst (Contains (numbers_in rows)) e (contains_map (λ (x : Row). x.number) rows t there)))
