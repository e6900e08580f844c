-- New slots by number.
use Rattle.std.proofs.Common.{◌≡◌, ◌≢◌, ℕ, zero, suc, ◌+◌, ◌-◌, ◌<◌, ◌≤◌, List, [], ◌∷◌, ◌++◌, length, get_or, set, inl, inr, refl, sym}
use Rattle.std.proofs.Common.{ap, ◌∙◌, arith, length-set, length-append, get_or-set_same, get_or-set_other}
use Rattle.std.specs.Prelude.{All, ◌==◌, if◌then◌else◌}
use Rattle.std.proofs.lemmas.Bool.{cases_lt, cases_eq}
use Rattle.std.proofs.lemmas.List.{get_or_default, get_or-map, length-map, map-set, get_or_push, map-append}
use Rattle.std.proofs.Math.ListN.{get_or-append}
use Rattle.std.proofs.lemmas.List.Elements.{All-push}
use Rattle.std.proofs.lemmas.List.Quantifiers.{all_pairs_push}
use Rattle.ml_cone.specs.declared.slot.Slot.{Slot}
use Rattle.ml_store.specs.Rows.{AreDifferent}
use Rattle.ml_store.specs.declared.moved.Moved.{Moved}
use Rattle.ml_repair.specs.Plan.{slot_for}
use Rattle.ml_repair.specs.Moves.{numbers_of, IsFoundAt, IsColumn, AreMoves}
use Rattle.ml_store.proofs.lemmas.Moved.{if_same, if_other}
use Rattle.ml_repair.proofs.Pigeons.{at_most}

-- a number without a new slot has its own
pub slot_kept : (n : ℕ) (own : Slot) (moved : List Moved) → ((k : ℕ) → k < length moved → get_or (numbers_of moved) k 0 ≢ n) → slot_for n own moved ≡ own
slot_kept n own [] h = refl
slot_kept n own (m ∷ moved) h = ap (λ s. slot_for n s moved) (if_other m.number n m.slot own (h 0 (omega arith))) ∙ slot_kept n own moved (λ k lt. h (suc k) (omega arith))

-- a number with one new slot has that
pub slot_new : (n : ℕ) (own : Slot) (moved : List Moved) (k : ℕ) (d : Moved) → AreDifferent (numbers_of moved) →
    k < length moved → get_or (numbers_of moved) k 0 ≡ n → slot_for n own moved ≡ (get_or moved k d).slot
slot_new n own [] k d differ lt e = absurd (omega arith)
slot_new n own (m ∷ moved) zero d differ lt e =
    let many = length-map moved (λ (x : Moved). x.number) in
    ap (λ s. slot_for n s moved) (if_same m.number n m.slot own e)
    ∙ slot_kept n m.slot moved (λ k h f. differ 0 (suc k) 0 (omega arith) (omega arith) (e ∙ sym f))
slot_new n own (m ∷ moved) (suc k) d differ lt e =
    slot_new n (if m.number == n then m.slot else own) moved k d (λ i j z less h. differ (suc i) (suc j) z (omega arith) (omega arith)) (omega arith) e

-- one more new slot is that of its number
pub slot_push : (n : ℕ) (own : Slot) (moved : List Moved) (m : Moved) → slot_for n own (moved ++ m ∷ []) ≡ (if m.number == n then m.slot else slot_for n own moved)
slot_push n own [] m = refl
slot_push n own (x ∷ moved) m = slot_push n (if x.number == n then x.slot else own) moved m

-- a new slot of another number does not count
set_elsewhere : (x : ℕ) (own : Slot) (moved : List Moved) (at : ℕ) (new d : Moved) → at < length moved →
    new.number ≢ x → (get_or moved at d).number ≢ x → slot_for x own (set moved at new) ≡ slot_for x own moved
set_elsewhere x own [] at new d lt a b = absurd (omega arith)
set_elsewhere x own (m ∷ moved) zero new d lt a b = ap (λ s. slot_for x s moved) (if_other new.number x new.slot own a ∙ sym (if_other m.number x m.slot own b))
set_elsewhere x own (m ∷ moved) (suc at) new d lt a b = set_elsewhere x (if m.number == x then m.slot else own) moved at new d (omega arith) a b

-- ---- where a number's new slot is found

module _ (moved : List Moved) (n at : ℕ) (found : IsFoundAt moved n at) where
  -- it is found nowhere: the number has no new slot
  pub none_there : at ≡ 0 → (k : ℕ) → k < length moved → get_or (numbers_of moved) k 0 ≢ n
  none_there e k lt same = let f = found.1 k lt same in absurd (omega arith)

  -- it is found at a place
  pub one_there : 0 < at → (at - 1 < length moved) × (get_or (numbers_of moved) (at - 1) 0 ≡ n)
  one_there some =
      let bound : at ≤ length moved = found.0 in
      (omega arith, found.2 some (at - 1) (omega arith))

-- the first place with the number is the place of its slot
pub found_here : (moved : List Moved) (n k : ℕ) → AreDifferent (numbers_of moved) → k < length moved → get_or (numbers_of moved) k 0 ≡ n → IsFoundAt moved n (k + 1)
found_here moved n k differ lt here =
    let many = length-map moved (λ (x : Moved). x.number) in (
      omega arith,
      (λ m in' same. elim (cases_eq m k) [
        | inl e ↦ omega arith
        | inr other ↦ elim (cases_lt m k) [
          | inl less ↦ absurd (differ m k 0 less (omega arith) (same ∙ sym here))
          | inr more ↦ absurd (differ k m 0 (omega arith) (omega arith) (here ∙ sym same))
        ]
      ]),
      (λ some m e. let z : m ≡ k = omega arith in ap (λ y. get_or (numbers_of moved) y 0) z ∙ here),
    )

-- no place has the number
pub found_nowhere : (moved : List Moved) (n : ℕ) → ((k : ℕ) → k < length moved → get_or (numbers_of moved) k 0 ≢ n) → IsFoundAt moved n 0
found_nowhere moved n none = (omega arith, λ k lt same. absurd (none k lt same), λ some. absurd (omega arith))

-- one more label, which has no new slot so far
module _ (moved : List Moved) (n : ℕ) (slot : Slot) (none : (k : ℕ) → k < length moved → get_or (numbers_of moved) k 0 ≢ n) where
  -- the new slots, and that of the label behind them
  abbrev pub more : List Moved
  more = moved ++ (record { number = n; slot = slot }) ∷ []

  -- the numbers with new slots are those so far, and then that of the label
  pub numbers_more : numbers_of more ≡ numbers_of moved ++ n ∷ []
  numbers_more = map-append (λ (x : Moved). x.number) moved ((record { number = n; slot = slot }) ∷ [])

  -- the numbers are low, if that of the label is
  pub low_more : n < 32768 → All (λ x. x < 32768) (numbers_of moved) → All (λ x. x < 32768) (numbers_of more)
  low_more low all = rw numbers_more (All-push (λ x. x < 32768) (numbers_of moved) n all low)

  -- the numbers are different, since that of the label had no new slot
  pub differ_more : AreDifferent (numbers_of moved) → AreDifferent (numbers_of more)
  differ_more differ =
      let many = length-map moved (λ (x : Moved). x.number) in
      rw numbers_more (all_pairs_push (λ (a : ℕ) (b : ℕ). a ≢ b) (numbers_of moved) n differ (λ k d lt f. none k (omega arith) (get_or_default (numbers_of moved) k 0 d lt ∙ f)))

  left : (k : ℕ) → k < length moved → get_or (numbers_of more) k 0 ≡ get_or (numbers_of moved) k 0
  left k lt =
      let many = length-map moved (λ (x : Moved). x.number) in
      ap (λ ns. get_or ns k 0) numbers_more ∙ get_or-append (numbers_of moved) (n ∷ []) 0 k (omega arith)

  last : get_or (numbers_of more) (length moved) 0 ≡ n
  last =
      let many = length-map moved (λ (x : Moved). x.number) in
      ap (λ ns. get_or ns (length moved) 0) numbers_more ∙ get_or_push (numbers_of moved) n 0 (length moved) many

  -- a column that gets the place of the label's new slot at its number is the column of all of them
  pub column_more : (column : List ℕ) → n < 32768 → IsColumn moved column → IsColumn more (set column n (length moved + 1))
  column_more column low is =
      let long = length-append moved ((record { number = n; slot = slot }) ∷ []) in
      let all : length column ≡ 32768 = is.all_numbers in
      record {
        all_numbers = length-set column n (length moved + 1) ∙ all;
        found = λ x lt.
            elim (cases_eq x n) [
              | inl here ↦
                  let new : get_or (set column n (length moved + 1)) x 0 ≡ length moved + 1 =
                  ap (λ y. get_or (set column n (length moved + 1)) y 0) here ∙ get_or-set_same column n (length moved + 1) 0 (omega arith) in (
                    omega arith,
                    (λ k in' f. elim (cases_lt k (length moved)) [
                      | inl less ↦ absurd (none k less (sym (left k less) ∙ f ∙ here))
                      | inr more' ↦ omega arith
                    ]),
                    (λ some k f. let h : k ≡ length moved = omega arith in ap (λ y. get_or (numbers_of more) y 0) h ∙ last ∙ sym here),
                  )
              | inr other ↦
                  let same : get_or (set column n (length moved + 1)) x 0 ≡ get_or column x 0 = get_or-set_other column n x (length moved + 1) 0 other in
                  let f = is.found x lt in
                  let bound : get_or column x 0 ≤ length moved = f.0 in (
                    omega arith,
                    (λ k in' g. elim (cases_lt k (length moved)) [
                      | inl less ↦ same ∙ f.1 k less (sym (left k less) ∙ g)
                      | inr more' ↦ let h : k ≡ length moved = omega arith in absurd (other (sym g ∙ ap (λ y. get_or (numbers_of more) y 0) h ∙ last))
                    ]),
                    (λ some k g. let less : k < length moved = omega arith in left k less ∙ f.2 (omega arith) k (omega arith)),
                  )
            ];
      }

  -- the label's number has the new slot, and each other number has what it had
  pub slots_more : (x : ℕ) (own : Slot) → slot_for x own more ≡ (if x == n then slot else slot_for x own moved)
  slots_more x own =
      slot_push x own moved (record { number = n; slot = slot }) ∙ elim (cases_eq x n) [
        | inl here ↦ if_same n x slot (slot_for x own moved) (sym here) ∙ sym (if_same x n slot (slot_for x own moved) here)
        | inr other ↦ if_other n x slot (slot_for x own moved) (λ f. other (sym f)) ∙ sym (if_other x n slot (slot_for x own moved) other)
      ]

-- there are no more new slots than numbers
pub few_moves : (moved : List Moved) → All (λ n. n < 32768) (numbers_of moved) → AreDifferent (numbers_of moved) → length moved ≤ 32768
few_moves moved low differ =
    let many = length-map moved (λ (x : Moved). x.number) in
    let few = at_most 32768 (numbers_of moved) differ low in
    omega arith

-- a column of zeros is that of no new slots
pub column_none : (column : List ℕ) → length column ≡ 32768 → ((k : ℕ) → k < 32768 → get_or column k 0 ≡ 0) → IsColumn [] column
column_none column many zeros = record {
  all_numbers = many;
  found = λ n lt. (let z = zeros n lt in (omega arith, λ k h. absurd (omega arith), λ h. absurd (omega arith)));
}

-- ---- a new slot takes the place of another

module _ (moved : List Moved) (n : ℕ) (at : ℕ) (old : Moved) (slot : Slot) (in' : at < length moved) (read : old ≡ get_or moved at old) (here : get_or (numbers_of moved) at 0 ≡ n) where
  number_old : old.number ≡ n
  number_old = ap (λ (m : Moved). m.number) read ∙ sym (get_or-map (λ (m : Moved). m.number) moved at old 0 in') ∙ here

  numbers_set : numbers_of (set moved at (record { number = old.number; slot = slot })) ≡ numbers_of moved
  numbers_set =
      let new : Moved = record { number = old.number; slot = slot } in
      map-set (λ (m : Moved). m.number) moved at new ∙ set_again (numbers_of moved) at old.number (let many = length-map moved (λ (m : Moved). m.number) in omega arith) (here ∙ sym number_old)
    where
      set_again : (xs : List ℕ) (i x : ℕ) → i < length xs → get_or xs i 0 ≡ x → set xs i x ≡ xs
      set_again [] i x lt e = refl
      set_again (y ∷ xs) zero x lt e = ap (λ z. z ∷ xs) (sym e)
      set_again (y ∷ xs) (suc i) x lt e = ap (λ zs. y ∷ zs) (set_again xs i x (omega arith) e)

  -- the column still tells where each number's new slot is found
  pub moves_set : (column : List ℕ) → AreMoves moved column → AreMoves (set moved at (record { number = old.number; slot = slot })) column
  moves_set column are =
      let len = length-set moved at (record { number = old.number; slot = slot }) in
      record {
        low = rw numbers_set are.low;
        differ = rw numbers_set are.differ;
        found = elim are.found [
          | inl none ↦ inl none
          | inr is ↦ inr (record { all_numbers = is.all_numbers; found = rw (numbers_set, len) is.found })
        ];
      }

  -- the number has the later slot, and each other number has what it had
  pub slots_set : AreDifferent (numbers_of moved) → (x : ℕ) (own : Slot) → slot_for x own (set moved at (record { number = old.number; slot = slot })) ≡ (if x == n then slot else slot_for x own moved)
  slots_set differ x own =
      let new : Moved = record { number = old.number; slot = slot } in
      let len = length-set moved at new in
      elim (cases_eq x n) [
        | inl here' ↦
            slot_new x own (set moved at new) at new (rw numbers_set differ) (omega arith) (rw numbers_set (here ∙ sym here'))
            ∙ ap (λ (m : Moved). m.slot) (get_or-set_same moved at new new in') ∙ sym (if_same x n slot (slot_for x own moved) here')
        | inr other ↦
            set_elsewhere x own moved at new old in' (λ f. other (sym f ∙ number_old)) (λ f. other (sym f ∙ ap (λ (m : Moved). m.number) (sym read) ∙ number_old))
            ∙ sym (if_other x n slot (slot_for x own moved) other)
      ]
