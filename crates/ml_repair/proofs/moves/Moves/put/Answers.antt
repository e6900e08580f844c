use Rattle.std.proofs.Common.{◌≡◌, ◌≢◌, ◌∙◌, ◌+◌, ◌-◌, ◌<◌, ◌≤◌, ◌++◌, [], ◌∷◌, ◌⊎◌, ℕ, List, refl, sym, subst, arith, length, get_or, set, length-append, inl, inr, true}
use Rattle.std.specs.Prelude.{All, ◌==◌}
use Rattle.std.proofs.lemmas.Bool.Decides.{nat_tests}
use Rattle.ml_cone.specs.declared.slot.Slot.{Slot}
use Rattle.ml_store.specs.Rows.{AreDifferent}
use Rattle.ml_store.specs.declared.moved.Moved.{Moved}
use Rattle.ml_repair.specs.Moves.{IsFoundAt, IsColumn, AreMoves, numbers_of}
use Rattle.ml_repair.proofs.Moving.{none_there, one_there, moves_set, slots_set, few_moves, low_more, differ_more, column_more, slots_more}
use Rattle.ml_repair.proofs.moves.Moves.put.Goals as goal

pub invariant_of-self : goal.invariant_of-self
invariant_of-self c =
    let moved = c.self.inside.moved.items in
    let at = c.find-at.result in
    let found : IsFoundAt moved c.args.number at = rw (← c.self.view_is) at c.find-at.ensures in
    let there = one_there moved c.args.number at found c.if-at-gt0.true in
    moves_set moved c.args.number (at - 1) c.index_mut.result.now c.args.slot there.0 c.index_mut.ensures.value there.1 c.self.inside.column.items c.self.invariant

pub returns-then-at-gt0 : goal.returns-then-at-gt0
returns-then-at-gt0 c n own =
    let moved = c.self.inside.moved.items in
    let at = c.find-at.result in
    let found : IsFoundAt moved c.args.number at = rw (← c.self.view_is) at c.find-at.ensures in
    let there = one_there moved c.args.number at found c.if-at-gt0.true in
    rw (← c.self.view_is) (slots_set moved c.args.number (at - 1) c.index_mut.result.now c.args.slot there.0 c.index_mut.ensures.value there.1 c.self.invariant.differ n own)

zero_of : (n : ℕ) → true ≡ (n == 0) → n ≡ 0
zero_of n e = grind (arith, nat_tests)

-- the new slots with one more, of a number that had none
module _ (moved : List Moved) (n : ℕ) (slot : Slot) (low : n < 32768) (all : All (λ x. x < 32768) (numbers_of moved))
    (differ : AreDifferent (numbers_of moved)) (none : (k : ℕ) → k < length moved → get_or (numbers_of moved) k 0 ≢ n) where
  abbrev more : List Moved
  more = moved ++ (record { number = n; slot = slot }) ∷ []

  few_more : length moved + 1 ≤ 32768
  few_more =
      let few = few_moves more (low_more moved n slot none low all) (differ_more moved n slot none differ) in
      omega (arith, length-append moved ((record { number = n; slot = slot }) ∷ []))

  moves_more : (column : List ℕ) → (column ≡ []) ⊎ IsColumn moved column → AreMoves more (set column n (length moved + 1))
  moves_more column found = record {
    low = low_more moved n slot none low all;
    differ = differ_more moved n slot none differ;
    found = elim found [
      | inl empty ↦ inl (rw empty refl)
      | inr is ↦ inr (column_more moved n slot none column low is)
    ];
  }

  moves_listed : (column : List ℕ) → (column ≡ []) ⊎ IsColumn moved column → length column ≡ 0 → AreMoves more column
  moves_listed column found empty = record {
    low = low_more moved n slot none low all;
    differ = differ_more moved n slot none differ;
    found = elim found [
      | inl none ↦ inl none
      | inr is ↦ let whole : length column ≡ 32768 = is.all_numbers in absurd (omega arith)
    ];
  }

pub overflow_cast-len : goal.overflow_cast-len
overflow_cast-len c =
    let moved = c.self-2.inside.moved.items in
    let n = c.args.number in
    let same : c.args.self.now ≡ moved = sym c.in_ok-widen.ensures ∙ sym c.self-2.view_is in
    let none = none_there moved n c.find-at.result (subst (λ (l : List Moved). IsFoundAt l n c.find-at.result) same c.find-at.ensures) (let t = c.if-at-gt0.false in omega arith) in
    let few = few_more moved n c.args.slot c.requires c.self-2.invariant.low c.self-2.invariant.differ none in
    let e = c.in_ok-push.ensures.len in
    omega arith

pub invariant_of-self-then-not-is_empty : goal.invariant_of-self-then-not-is_empty
invariant_of-self-then-not-is_empty c =
    let moved = c.self-2.inside.moved.items in
    let n = c.args.number in
    let same : c.args.self.now ≡ moved = sym c.in_ok-widen.ensures ∙ sym c.self-2.view_is in
    let none = none_there moved n c.find-at.result (subst (λ (l : List Moved). IsFoundAt l n c.find-at.result) same c.find-at.ensures) (let t = c.if-at-gt0.false in omega arith) in
    let many : c.len.result ≡ length moved + 1 = (let e = c.in_ok-push.ensures.len in omega arith) in
    rw (c.in_ok-push.ensures.items, many) (moves_more moved n c.args.slot c.requires c.self-2.invariant.low c.self-2.invariant.differ none c.self-2.inside.column.items c.self-2.invariant.found)

pub invariant_of-self-else-not-is_empty : goal.invariant_of-self-else-not-is_empty
invariant_of-self-else-not-is_empty c =
    let moved = c.self-2.inside.moved.items in
    let n = c.args.number in
    let same : c.args.self.now ≡ moved = sym c.in_ok-widen.ensures ∙ sym c.self-2.view_is in
    let none = none_there moved n c.find-at.result (subst (λ (l : List Moved). IsFoundAt l n c.find-at.result) same c.find-at.ensures) (let t = c.if-at-gt0.false in omega arith) in
    rw c.in_ok-push.ensures.items (moves_listed moved n c.args.slot c.requires c.self-2.invariant.low c.self-2.invariant.differ none
    c.self-2.inside.column.items c.self-2.invariant.found (let e = zero_of c.self-2.inside.column.len c.if-not-is_empty.ensures in omega arith))

pub returns-then-not-is_empty : goal.returns-then-not-is_empty
returns-then-not-is_empty c n own =
    let moved = c.self-2.inside.moved.items in
    let same : c.args.self.now ≡ moved = sym c.in_ok-widen.ensures ∙ sym c.self-2.view_is in
    let none = none_there moved c.args.number c.find-at.result
    (subst (λ (l : List Moved). IsFoundAt l c.args.number c.find-at.result) same c.find-at.ensures) (let t = c.if-at-gt0.false in omega arith) in
    rw (c.in_ok-push.ensures.items, same) (slots_more moved c.args.number c.args.slot none n own)

pub returns-else-not-is_empty : goal.returns-else-not-is_empty
returns-else-not-is_empty c n own =
    let moved = c.self-2.inside.moved.items in
    let same : c.args.self.now ≡ moved = sym c.in_ok-widen.ensures ∙ sym c.self-2.view_is in
    let none = none_there moved c.args.number c.find-at.result
    (subst (λ (l : List Moved). IsFoundAt l c.args.number c.find-at.result) same c.find-at.ensures) (let t = c.if-at-gt0.false in omega arith) in
    rw (c.in_ok-push.ensures.items, same) (slots_more moved c.args.number c.args.slot none n own)
