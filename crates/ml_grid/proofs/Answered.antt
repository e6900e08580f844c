-- What a search appends.
use Rattle.std.proofs.Common.{◌≡◌, ◌∙◌, ap, sym, ℕ, ◌+◌, arith, List, [], ◌++◌, get_or, take, subst, inl, inr}
use Rattle.std.specs.Prelude.{Contains, ◌↔◌, OnErr, Result, Ok, Err}
use Rattle.std.specs.List.Sorted.{IsStrictlyIncreasing}
use Rattle.std.proofs.lemmas.Bool.{cases_lt}
use Rattle.std.proofs.lemmas.List.{get_or-take, length-take, get_or_default, append-nil}
use Rattle.std.proofs.lemmas.List.Kept.{AllPairs-from_increasing}
use Rattle.ml_cone.specs.Hull.{hull_of}
use Rattle.ml_cone.specs.declared.cells.Cells.{Cells}
use Rattle.ml_cone.specs.declared.label.Label.{Label}
use Rattle.ml_grid.specs.Entry.{Entry}
use Rattle.ml_grid.specs.Found.{AreNumbers, AreFirst, AppendsNumbers, AppendsFirst, Finds, IsAmong, IsInHull, IsNumberOf}

-- what was found, ascending and each once
pub numbers_of_finds : (P : Entry → Type 0) (entries : List Entry) (found numbers : List ℕ) → Finds P entries [] found →
    IsStrictlyIncreasing numbers → ((n : ℕ) → Contains numbers n ↔ Contains found n) → AreNumbers P entries numbers
numbers_of_finds P entries found numbers finds up same = record {
  ascending = up;
  sound = λ n h. elim ((finds n).0 ((same n).0 h)) [ inl none ↦ (let m = none.1 in absurd (omega arith)) | inr some ↦ some ];
  whole = λ n h. (same n).1 ((finds n).1 (inr h));
}

up_take : (numbers : List ℕ) (k : ℕ) → IsStrictlyIncreasing numbers → IsStrictlyIncreasing (take k numbers)
up_take numbers k up i low =
    let n = length-take k numbers in
    let a : get_or (take k numbers) i 0 ≡ get_or numbers i 0 = get_or-take k numbers i 0 (omega arith) in
    let b : get_or (take k numbers) (i + 1) 0 ≡ get_or numbers (i + 1) 0 = get_or-take k numbers (i + 1) 0 (omega arith) in
    let c = up i (omega arith) in
    rw (a, b) c

-- a prefix of the ascending numbers has with each number all that are less
pub first_of_numbers : (P : Entry → Type 0) (entries : List Entry) (numbers : List ℕ) (k : ℕ) → AreNumbers P entries numbers → AreFirst P entries (take k numbers)
first_of_numbers P entries numbers k h =
    let n = length-take k numbers in
    record {
      ascending = up_take numbers k h.ascending;
      sound = λ m in_take. (let low = in_take.1 in h.sound m (in_take.0, omega arith, sym (get_or-take k numbers in_take.0 m (omega arith)) ∙ in_take.2));
      first = λ m u is less in_take.
          let low = in_take.1 in
          let there = h.whole m is in
          let inside = there.1 in
          let at_m : get_or numbers there.0 0 ≡ m = get_or_default numbers there.0 0 m inside ∙ there.2 in
          let at_u : get_or numbers in_take.0 0 ≡ u = get_or_default numbers in_take.0 0 u (omega arith) ∙ sym (get_or-take k numbers in_take.0 u (omega arith)) ∙ in_take.2 in
          elim (cases_lt there.0 k) [
            | inl before ↦ (there.0, omega arith, get_or-take k numbers there.0 m before ∙ there.2)
            | inr behind ↦
                let later = AllPairs-from_increasing numbers h.ascending in_take.0 there.0 0 (omega arith) inside in
                absurd (omega arith)
          ];
    }

-- what is true where there is an error may be said in weaker words
pub on_err : {E : Type 0} (r : Result (Unit {0}) E) (P Q : Type 0) → (P → Q) → OnErr r P → OnErr r Q
on_err (Ok u) P Q f h = h
on_err (Err e) P Q f h = f h

-- nothing was appended
pub appends_nothing : (P : Entry → Type 0) (entries : List Entry) (a : List ℕ) → AppendsFirst P entries a a
appends_nothing P entries a = (
  [],
  sym (append-nil a),
  record {
    ascending = λ k low. absurd (omega (arith, low));
    sound = λ n h. absurd (omega (arith, h.1));
    first = λ n m is less h. absurd (omega (arith, h.1));
  },
)

-- the whole was appended
pub appends_all : (P : Entry → Type 0) (entries : List Entry) (a b c numbers : List ℕ) → AreNumbers P entries numbers → c ≡ numbers → b ≡ a ++ c → AppendsNumbers P entries a b
appends_all P entries a b c numbers h e f = (numbers, f ∙ ap (λ (ns : List ℕ). a ++ ns) e, h)

-- a prefix was appended, and it has with each number all that are less
pub appends_some : (P : Entry → Type 0) (entries : List Entry) (a b c numbers : List ℕ) → AreNumbers P entries numbers → c ≡ numbers → ((k : ℕ) × (b ≡ a ++ take k c)) → AppendsFirst P entries a b
appends_some P entries a b c numbers h e f = (take f.0 numbers, f.1 ∙ ap (λ (ns : List ℕ). a ++ take f.0 ns) e, first_of_numbers P entries numbers f.0 h)

-- among the cells of the hull
pub in_hull : (a : Label) (k : ℕ) (cells : Cells) → cells ≡ hull_of a k → (e : Entry) → IsInHull a k e ↔ IsAmong cells e
unfolding hull_of
in_hull a k cells is e =
    subst (λ (c : Cells). IsInHull a k e ↔ IsAmong c e) (sym is) (λ h. h, λ h. h)

-- what was found where nothing was before
pub all_found : (P : Entry → Type 0) (entries : List Entry) (found : List ℕ) → Finds P entries [] found → (n : ℕ) → Contains found n ↔ IsNumberOf P entries n
all_found P entries found finds n = (
  λ h. elim ((finds n).0 h) [ inl none ↦ (let m = none.1 in absurd (omega arith)) | inr some ↦ some ],
  λ h. (finds n).1 (inr h),
)
